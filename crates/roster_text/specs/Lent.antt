-- What lent words stand for.
use denote.Ref.{Bor}
use Rattle.std.specs.Prelude.{ℕ, List, Option, map}
use Rattle.std.specs.Option.{option_map}
use Rattle.roster_text.specs.declared.line.TalkWords.{TalkWords}
use Rattle.roster_text.specs.declared.line.TalkWords.TheVariants as talkers
use Rattle.roster_text.specs.declared.line.ListenWords.{ListenWords}
use Rattle.roster_text.specs.declared.line.Line.{Line}
use Rattle.roster_text.specs.declared.line.Line.TheVariants as lines
use Rattle.roster_text.specs.Grammar.{TalkTexts, MuTexts, ATexts, CodeTexts, ListenTexts, Shape, EndLine, LeaveLine, JoinLine}

-- the octets of lent words
abbrev pub texts : List (Bor (List ℕ)) → List (List ℕ)
texts words = map (λ (w : Bor (List ℕ)). w.now) words

-- the octets of a lent word, if there is one
abbrev pub text : Option (Bor (List ℕ)) → Option (List ℕ)
text word = option_map (λ (w : Bor (List ℕ)). w.now) word

abbrev pub talk_texts : TalkWords → TalkTexts
talk_texts (talkers.Mu ssrc) = MuTexts ssrc.now
talk_texts (talkers.A ssrc) = ATexts ssrc.now
talk_texts (talkers.G726 rate pt ssrc) = CodeTexts rate pt.now ssrc.now

abbrev pub listen_texts : ListenWords → ListenTexts
listen_texts w = record { rate = w.rate.now; pt = w.pt.now; ssrc = w.ssrc.now; seq = w.seq.now; stamp = w.stamp.now; bundle = text w.bundle }

-- the form that a line of lent words has
abbrev pub told_line : Line → Shape
told_line (lines.End time) = EndLine time.now
told_line (lines.Leave time member) = LeaveLine time.now member.now
told_line (lines.Join time member talk listen) = JoinLine time.now member.now (option_map talk_texts talk) (option_map listen_texts listen)
