-- What a line of a roster says by its words alone: its form, then its numbers, its rate, its payload types and its bundle.
use Rattle.std.specs.Prelude.{ℕ, Bool, ◌&&◌, nat_eq, nat_le, if◌then◌else◌, List, [], ◌∷◌, Option, None, Some, Result, Ok, Err, codes}
use Rattle.std.specs.List.{starts_with}
use Rattle.std.specs.Option.{option_map}
use Rattle.std.specs.Str.{bytes_eq}
use Rattle.g726_bits.specs.declared.Rate.{Rate}
use Rattle.g726_bits.specs.declared.Rate.TheVariants.{R16, R24, R32, R40}
use Rattle.roster_text.specs.declared.commands.Law.TheVariants.{Mu, A, G726}
use Rattle.roster_text.specs.declared.commands.Talk.{Talk}
use Rattle.roster_text.specs.declared.commands.Listen.{Listen}
use Rattle.roster_text.specs.declared.commands.Command.TheVariants.{Join, Leave}
use Rattle.roster_text.specs.declared.entry.Entry.{Entry}
use Rattle.roster_text.specs.declared.entry.Entry.TheVariants.{Says, Ends}
use Rattle.roster_text.specs.declared.faults.RosterKind.{RosterKind}
use Rattle.roster_text.specs.declared.faults.RosterKind.TheVariants as kinds
use Rattle.roster_text.specs.declared.numbers.Sends.{Sends}
use Rattle.roster_text.specs.declared.numbers.Sends.TheVariants as sends
use Rattle.roster_text.specs.declared.numbers.Gets.{Gets}
use Rattle.roster_text.specs.Lines.{fields_of, number_of}

-- a word is this text
abbrev pub spells : List ℕ → List ℕ → Bool
spells text word = bytes_eq word text

-- a word begins with this text
abbrev pub begins : List ℕ → List ℕ → Bool
begins text word = starts_with nat_eq word text

-- what a member sends, by its words: octets of a law of G.711, or codes of G.726
pub data TalkTexts : Type 0 where
  MuTexts : (ssrc : List ℕ) → TalkTexts
  ATexts : (ssrc : List ℕ) → TalkTexts
  CodeTexts : (rate : Rate) (pt ssrc : List ℕ) → TalkTexts

-- the five words of what a member gets, and the sixth, if it is there
pub record ListenTexts : Type 0 where
  pub rate : List ℕ
  pub pt : List ℕ
  pub ssrc : List ℕ
  pub seq : List ℕ
  pub stamp : List ℕ
  pub bundle : Option (List ℕ)

-- a line of one of the five forms, by its words; a join with TALK '-' sends nothing, and one that ends in '-' gets nothing
pub data Shape : Type 0 where
  EndLine : (time : List ℕ) → Shape
  LeaveLine : (time member : List ℕ) → Shape
  JoinLine : (time member : List ℕ) (talk : Option TalkTexts) (listen : Option ListenTexts) → Shape

abbrev pub companded_of : (name ssrc : List ℕ) → Option TalkTexts
companded_of name ssrc = if spells (codes "pcmu") name then Some (MuTexts ssrc) else if spells (codes "pcma") name then Some (ATexts ssrc) else None

abbrev pub coder_of : List ℕ → Option Rate
coder_of w =
    if spells (codes "g726-16") w then Some R16
    else if spells (codes "g726-24") w then Some R24
    else if spells (codes "g726-32") w then Some R32
    else if spells (codes "g726-40") w then Some R40
    else None

-- what a member sends, by the fields of its word, parted by colons
abbrev pub talker_of : List (List ℕ) → Option TalkTexts
talker_of (name ∷ ssrc ∷ []) = companded_of name ssrc
talker_of (name ∷ pt ∷ ssrc ∷ []) = option_map (λ rate. CodeTexts rate pt ssrc) (coder_of name)
talker_of fields = None

-- the form of a word of what a member sends, if it has one
abbrev pub talk_form : List ℕ → Option (Option TalkTexts)
talk_form w = if spells (codes "-") w then Some None else option_map Some (talker_of (fields_of 58 w))

-- the form of a join, if it has one
abbrev pub join_form : (time verb member talk : List ℕ) (listen : Option ListenTexts) → Option Shape
join_form time verb member talk listen =
    if spells (codes "join") verb then option_map (λ t. JoinLine time member t listen) (talk_form talk) else None

-- the form of a line, if it has one
abbrev pub shape_of : List (List ℕ) → Option Shape
shape_of (time ∷ verb ∷ []) = if spells (codes "end") verb then Some (EndLine time) else None
shape_of (time ∷ verb ∷ member ∷ []) = if spells (codes "leave") verb then Some (LeaveLine time member) else None
shape_of (time ∷ verb ∷ member ∷ talk ∷ last ∷ []) =
    if spells (codes "-") last then join_form time verb member talk None else None
shape_of (time ∷ verb ∷ member ∷ talk ∷ rate ∷ pt ∷ ssrc ∷ seq ∷ stamp ∷ []) =
    join_form time verb member talk (Some (record { rate = rate; pt = pt; ssrc = ssrc; seq = seq; stamp = stamp; bundle = None }))
shape_of (time ∷ verb ∷ member ∷ talk ∷ rate ∷ pt ∷ ssrc ∷ seq ∷ stamp ∷ bundle ∷ []) =
    join_form time verb member talk (Some (record { rate = rate; pt = pt; ssrc = ssrc; seq = seq; stamp = stamp; bundle = Some bundle }))
shape_of words = None

-- goes on with what was found, or is the fault
abbrev pub or_fault : {X Y : Type 0} → RosterKind → Option X → (X → Result Y RosterKind) → Result Y RosterKind
or_fault kind None f = Err kind
or_fault kind (Some x) f = f x

-- goes on with what is right, or stays the fault
abbrev pub if_right : {X Y : Type 0} → Result X RosterKind → (X → Result Y RosterKind) → Result Y RosterKind
if_right (Err kind) f = Err kind
if_right (Ok x) f = f x

-- the greatest TIME, MEMBER, SSRC and STAMP
abbrev pub greatest_word : ℕ
greatest_word = 4294967295

-- the greatest SEQ
abbrev pub greatest_seq : ℕ
greatest_seq = 65535

abbrev pub rate_of : List ℕ → Option Rate
rate_of w =
    if spells (codes "16") w then Some R16
    else if spells (codes "24") w then Some R24
    else if spells (codes "32") w then Some R32
    else if spells (codes "40") w then Some R40
    else None

-- the ticks that a packet carries, which the sixth word tells; one tick without it
abbrev pub bundle_of : Option (List ℕ) → Option ℕ
bundle_of None = Some 1
bundle_of (Some w) =
    if spells (codes "1") w then Some 1
    else if spells (codes "2") w then Some 2
    else if spells (codes "3") w then Some 3
    else if spells (codes "4") w then Some 4
    else None

-- what a member sends, by its numbers
abbrev pub sends_of : Option TalkTexts → Result (Option Sends) RosterKind
sends_of None = Ok None
sends_of (Some (MuTexts ssrc)) = or_fault kinds.Number (number_of greatest_word ssrc) (λ n. Ok (Some (sends.Mu n)))
sends_of (Some (ATexts ssrc)) = or_fault kinds.Number (number_of greatest_word ssrc) (λ n. Ok (Some (sends.A n)))
sends_of (Some (CodeTexts rate pt ssrc)) =
    or_fault kinds.Number (number_of greatest_word pt) (λ p.
    or_fault kinds.Number (number_of greatest_word ssrc) (λ n.
    Ok (Some (sends.G726 rate p n))))

-- what a member gets, by its numbers and its rate: each fault of a number comes before one of the rate
abbrev pub gets_of : Option ListenTexts → Result (Option Gets) RosterKind
gets_of None = Ok None
gets_of (Some w) =
    or_fault kinds.Number (number_of greatest_word w.pt) (λ pt.
    or_fault kinds.Number (number_of greatest_word w.ssrc) (λ ssrc.
    or_fault kinds.Number (number_of greatest_seq w.seq) (λ seq.
    or_fault kinds.Number (number_of greatest_word w.stamp) (λ stamp.
    or_fault kinds.Rate (rate_of w.rate) (λ rate.
    Ok (Some (record { rate = rate; pt = pt; ssrc = ssrc; seq = seq; stamp = stamp; ticks = bundle_of w.bundle })))))))

-- a payload type that is told by a roster is 96 to 127
abbrev pub own_type : ℕ → Option ℕ
own_type pt = if nat_le 96 pt && nat_le pt 127 then Some pt else None

-- what a member sends, whose payload type may have a fault
abbrev pub talk_of : Option Sends → Result (Option Talk) RosterKind
talk_of None = Ok None
talk_of (Some (sends.Mu ssrc)) = Ok (Some (record { law = Mu; ssrc = ssrc }))
talk_of (Some (sends.A ssrc)) = Ok (Some (record { law = A; ssrc = ssrc }))
talk_of (Some (sends.G726 rate pt ssrc)) = or_fault kinds.PayType (own_type pt) (λ p. Ok (Some (record { law = G726 rate p; ssrc = ssrc })))

-- what a member gets: a fault of the payload type comes before one of the bundle
abbrev pub listen_of : Option Gets → Result (Option Listen) RosterKind
listen_of None = Ok None
listen_of (Some g) =
    or_fault kinds.PayType (own_type g.pt) (λ p.
    or_fault kinds.Bundle g.ticks (λ ticks.
    Ok (Some (record { rate = g.rate; pt = p; ssrc = g.ssrc; first_seq = g.seq; first_stamp = g.stamp; ticks = ticks }))))

-- what a line of a form says: a command or the end
abbrev pub entry_of : Shape → Result Entry RosterKind
entry_of (EndLine time) = or_fault kinds.Number (number_of greatest_word time) (λ at. Ok (Ends at))
entry_of (LeaveLine time member) =
    or_fault kinds.Number (number_of greatest_word time) (λ at.
    or_fault kinds.Number (number_of greatest_word member) (λ m.
    Ok (Says (record { at = at; command = Leave m }))))
entry_of (JoinLine time member talk listen) =
    or_fault kinds.Number (number_of greatest_word time) (λ at.
    or_fault kinds.Number (number_of greatest_word member) (λ m.
    if_right (sends_of talk) (λ s.
    if_right (gets_of listen) (λ g.
    if_right (talk_of s) (λ t.
    if_right (listen_of g) (λ l.
    Ok (Says (record { at = at; command = Join m t l }))))))))

-- what a line says by its words alone, or their fault
abbrev pub said_by : List (List ℕ) → Result Entry RosterKind
said_by words = or_fault kinds.Words (shape_of words) entry_of
