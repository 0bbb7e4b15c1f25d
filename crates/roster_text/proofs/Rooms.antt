-- The tables of a room stand for the commands with one more.
use Rattle.std.proofs.Common.{◌≡◌, ◌+◌, ℕ, Bool, true, false, not, ◌&&◌, ◌||◌, cond, nat_eq, nat_le, List, ◌∷◌, length, Option, None, Some, Result, Ok, Err, refl, sym, ap, subst, ◌∙◌, arith, add-one}
use Rattle.std.specs.Prelude.{is_some, OnOk}
use Rattle.std.specs.HashMap as map_of
use Rattle.std.specs.HashSet as set_of
use Rattle.std.proofs.lemmas.Bool.{or_parts}
use Rattle.roster_text.specs.declared.commands.Talk.{Talk}
use Rattle.roster_text.specs.declared.commands.Listen.{Listen}
use Rattle.roster_text.specs.declared.commands.Command.{Command}
use Rattle.roster_text.specs.declared.commands.Command.TheVariants.{Join, Leave}
use Rattle.roster_text.specs.declared.commands.Timed.{Timed}
use Rattle.roster_text.specs.declared.seat.Seat.{Seat}
use Rattle.roster_text.specs.declared.room.Room.{Room}
use Rattle.roster_text.specs.declared.faults.RosterKind.{RosterKind}
use Rattle.roster_text.specs.declared.faults.RosterKind.TheVariants as kinds
use Rattle.roster_text.specs.Places.{is_here, is_number, passes, talks_on, listens_on, talking, listening, present, joined, misplaced, without, most_members}
use Rattle.roster_text.specs.Tables.{Keeps, Adds, Drops, talk_at, listen_at}
use Rattle.roster_text.proofs.Seats.{a_seat, apart_without, had_without, length_without, no_seat, not_here, seat_without}

clear : (a b c : Bool) (k l n : RosterKind) → cond a (Some k) (cond b (Some l) (cond c (Some n) None)) ≡ None → (a ≡ false) × (b ≡ false)
clear true b c k l n e = absurd (cc)
clear false true c k l n e = absurd (cc)
clear false false c k l n e = (refl, refl)

present_if : (b : Bool) (k : RosterKind) → cond b None (Some k) ≡ None → b ≡ true
present_if true k e = refl
present_if false k e = absurd (cc)

-- a join
pub keeps_join : (old new : Room) (past : List Timed) (at m : ℕ) (talk : Option Talk) (listen : Option Listen)
    → Adds old new (record { member = m; talk = talks_on talk; listen = listens_on listen })
    → Keeps old past → misplaced past (Join m talk listen) ≡ None → Keeps new (record { at = at; command = Join m talk listen } ∷ past)
keeps_join old new past at m talk listen adds keeps fine =
    let seat : Seat = record { member = m; talk = talks_on talk; listen = listens_on listen } in
    let free = clear (joined m past)
    (passes (λ n. talking n (present past)) (talks_on talk) || passes (λ n. listening n (present past)) (listens_on listen))
    (nat_le most_members (length (present past))) kinds.Used kinds.SsrcTaken kinds.Full fine in
    let apart = or_parts (passes (λ n. talking n (present past)) (talks_on talk)) (passes (λ n. listening n (present past)) (listens_on listen)) free.1 in
    let absent : is_here m (present past) ≡ false = not_here m past free.0 in
    record {
      joiners = λ q. adds.joiners q ∙ ap (λ (b : Bool). nat_eq m q || b) (keeps.joiners q);
      seats = λ q. adds.seats q ∙ ap (λ (o : Option Seat). cond (nat_eq m q) (Some seat) o) (keeps.seats q);
      count = adds.count (keeps.seats m ∙ no_seat m (present past) absent) ∙ ap (λ (n : ℕ). n + 1) keeps.count ∙ add-one (length (present past));
      talkers = λ q. adds.talkers q ∙ ap (λ (b : Bool). is_number q (talks_on talk) || b) (keeps.talkers q);
      listeners = λ q. adds.listeners q ∙ ap (λ (b : Bool). is_number q (listens_on listen) || b) (keeps.listeners q);
      members_apart = (absent, keeps.members_apart);
      talkers_apart = (apart.0, keeps.talkers_apart);
      listeners_apart = (apart.1, keeps.listeners_apart);
    }

-- a leave
pub keeps_leave : (old new : Room) (past : List Timed) (at m : ℕ) → Drops old new m → Keeps old past → misplaced past (Leave m) ≡ None
    → Keeps new (record { at = at; command = Leave m } ∷ past)
keeps_leave old new past at m drops keeps fine =
    let here : is_here m (present past) ≡ true = present_if (is_here m (present past)) kinds.Absent fine in
    let found = a_seat m (present past) here in
    let s : Seat = found.0 in
    let it : map_of.get nat_eq old.seats m ≡ Some s = keeps.seats m ∙ found.1 in
    let less : map_of.hash_map_len new.seats + 1 ≡ map_of.hash_map_len old.seats =
    ap (λ (o : Option Seat). map_of.hash_map_len new.seats + cond (is_some o) 1 0) (sym it) ∙ drops.count in
    let fewer : length (without m (present past)) + 1 ≡ length (present past) = length_without m (present past) keeps.members_apart here in
    let count : map_of.hash_map_len old.seats ≡ length (present past) = keeps.count in
    record {
      joiners = λ q. drops.joiners q ∙ keeps.joiners q;
      seats = λ q. drops.seats q ∙ ap (λ (o : Option Seat). cond (nat_eq m q) None o) (keeps.seats q) ∙ sym (seat_without m q (present past));
      count = omega (arith, less, fewer, count);
      talkers = λ q.
          drops.talkers q
          ∙ ap (λ (o : Option Seat). not (is_number q (talk_at o)) && set_of.contains nat_eq old.talking q) it
          ∙ ap (λ (b : Bool). not (is_number q s.talk) && b) (keeps.talkers q)
          ∙ sym (had_without (λ s. s.talk) m q (present past) s keeps.members_apart keeps.talkers_apart found.1);
      listeners = λ q.
          drops.listeners q
          ∙ ap (λ (o : Option Seat). not (is_number q (listen_at o)) && set_of.contains nat_eq old.listening q) it
          ∙ ap (λ (b : Bool). not (is_number q s.listen) && b) (keeps.listeners q)
          ∙ sym (had_without (λ s. s.listen) m q (present past) s keeps.members_apart keeps.listeners_apart found.1);
      members_apart = apart_without (λ s. Some s.member) m (present past) keeps.members_apart;
      talkers_apart = apart_without (λ s. s.talk) m (present past) keeps.talkers_apart;
      listeners_apart = apart_without (λ s. s.listen) m (present past) keeps.listeners_apart;
    }

-- what a join leaves, where memory sufficed
pub after_join : {X E : Type 0} (r : Result X E) (old new : Room) (c : Command) (m : ℕ) (talk : Option Talk) (listen : Option Listen) (t l : Option ℕ)
    → c ≡ Join m talk listen → t ≡ talks_on talk → l ≡ listens_on listen → OnOk r (Adds old new (record { member = m; talk = t; listen = l }))
    → OnOk r ((past : List Timed) (at : ℕ) → Keeps old past → misplaced past c ≡ None → Keeps new (record { at = at; command = c } ∷ past))
after_join (Ok x) old new c m talk listen t l is talks listens adds =
    let P : Command → Type 0 = λ c. (past : List Timed) (at : ℕ) → Keeps old past → misplaced past c ≡ None → Keeps new (record { at = at; command = c } ∷ past) in
    let Q : Option ℕ → Type 0 = λ o. Adds old new (record { member = m; talk = o; listen = l }) in
    let R : Option ℕ → Type 0 = λ o. Adds old new (record { member = m; talk = talks_on talk; listen = o }) in
    let known : Adds old new (record { member = m; talk = talks_on talk; listen = listens_on listen }) = subst R listens (subst Q talks adds) in
    subst P (sym is) (λ past at keeps fine. keeps_join old new past at m talk listen known keeps fine)
after_join (Err e) old new c m talk listen t l is talks listens adds = tt

-- what a leave leaves
pub after_leave : (old new : Room) (c : Command) (m : ℕ) → c ≡ Leave m → Drops old new m
    → (past : List Timed) (at : ℕ) → Keeps old past → misplaced past c ≡ None → Keeps new (record { at = at; command = c } ∷ past)
after_leave old new c m is drops =
    let P : Command → Type 0 = λ c. (past : List Timed) (at : ℕ) → Keeps old past → misplaced past c ≡ None → Keeps new (record { at = at; command = c } ∷ past) in
    subst P (sym is) (λ past at keeps fine. keeps_leave old new past at m drops keeps fine)
