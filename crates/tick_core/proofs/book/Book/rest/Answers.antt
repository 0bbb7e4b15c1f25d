use Rattle.std.proofs.Common.{◌≡◌, ◌<◌, List, length, sym, ap, subst, ◌∙◌}
use Rattle.std.specs.Prelude.{slice_get}
use Rattle.std.specs.List.{flat_map}
use Rattle.conference_spec.specs.declared.Packet.{Packet}
use Rattle.conference_spec.specs.Codec.{g726}
use Rattle.conference_spec.specs.Packets.{rest}
use Rattle.book_lists.specs.Mailing.{last_of}
use Rattle.tick_core.proofs.Twins.{rests-all}
use Rattle.tick_core.proofs.book.Book.rest.Goals as goal

pub rest_at-requires-clause-there : goal.rest_at-requires-clause-there
rest_at-requires-clause-there c =
    let all = c.requires.collected in
    let e : flat_map last_of c.deref.result.now ≡ rest g726 all.0.feed = ap (flat_map last_of) c.deref.ensures.value ∙ rests-all c.args.self.now all.0 all all.1 in
    subst (λ (ps : List Packet). c.args.i < length ps) (sym e) (c.requires.there all.0 all.1)

pub returns : goal.returns
returns c = λ core s.
    let e : flat_map last_of c.deref.result.now ≡ rest g726 core.feed = ap (flat_map last_of) c.deref.ensures.value ∙ rests-all c.args.self.now core c.requires.collected s in
    ap (λ (ps : List Packet). slice_get ps c.args.i) (sym e) ∙ c.rest_at.ensures
