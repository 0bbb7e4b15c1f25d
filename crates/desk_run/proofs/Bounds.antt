-- How many arrivals a session can refuse: no more than a count of 64 bits can say.
use Rattle.std.proofs.Common.{zero, suc, ◌≡◌, ◌≤◌, ◌*◌, ◌+◌, ◌∷◌, [], ℕ, List, length, cond, refl, arith, Result, Ok, Err}
use Rattle.std.specs.Prelude.{nat_lt, drop}
use Rattle.std.proofs.lemmas.Bool.{cond_both}
use Rattle.std.proofs.Math.Nat.{mul-le-mul}
use Rattle.conference_spec.proofs.Events.{length-map}
use Rattle.roster_text.specs.declared.commands.Timed.{Timed}
use Rattle.rtp_dump.specs.declared.item.DumpItem.{DumpItem}
use Rattle.rtp_dump.specs.declared.item.TheConstants.{MAX_RECORDS}
use Rattle.rtp_dump.specs.declared.faults.DumpKind.TheVariants.{TornHead, ShortLength, TornRecord}
use Rattle.rtp_dump.specs.Spelling.{Fault, Placed, Capture, length_word}
use Rattle.rtp_dump.specs.Capture.{before, broken, capture, capture_of, item_at, opening, records_from}
use Rattle.session_spec.specs.Talkers.{Events, Applies, Hears, Cuts, talkers, arrival, is_accepted}
use Rattle.session_spec.specs.Events.{refused, commands_of, after_commands, after_record, after_records, begins_with_cut, after_cut}
use Rattle.session_spec.specs.Captured.{until, from, heard_in, items, events_over}

length-until : (m : ℕ) (xs : List DumpItem) → length (until m xs) ≤ length xs
length-until m [] = omega arith
length-until m (x ∷ xs) =
    let ih = length-until m xs in
    let P : List DumpItem → Type 0 = λ ys. length ys ≤ length (x ∷ xs) in
    cond_both (nat_lt x.offset m) (x ∷ until m xs) [] P (λ t. omega arith) (λ t. omega arith)

pub length-from : (m : ℕ) (xs : List DumpItem) → length (from m xs) ≤ length xs
length-from m [] = omega arith
length-from m (x ∷ xs) =
    let ih = length-from m xs in
    let P : List DumpItem → Type 0 = λ ys. length ys ≤ length (x ∷ xs) in
    cond_both (nat_lt x.offset m) (from m xs) (x ∷ xs) P (λ t. omega arith) (λ t. omega arith)

refused-one : (i : DumpItem) (h : Events) → refused (after_record i h) ≤ refused h + 1
refused-one i h =
    let P : Events → Type 0 = λ j. refused j ≤ refused h + 1 in
    let Q : ℕ → Type 0 = λ n. n ≤ refused h + 1 in
    cond_both (nat_lt 0 i.plen) (Hears i.plen i.octets ∷ h) h P
    (λ t. cond_both (is_accepted (arrival (talkers h) i.plen i.octets)) (refused h) (refused h + 1) Q (λ u. omega arith) (λ u. omega arith))
    (λ t. omega arith)

refused-records : (its : List DumpItem) (h : Events) → refused (after_records its h) ≤ refused h + length its
refused-records [] h = omega arith
refused-records (i ∷ is) h =
    let ih = refused-records is (after_record i h) in
    let one = refused-one i h in
    omega arith

refused-commands : (cs : List Timed) (h : Events) → refused (after_commands cs h) ≡ refused h
refused-commands [] h = refl
refused-commands (c ∷ cs) h = refused-commands cs (Applies c.command ∷ h)

refused-cut : (k : ℕ) (h : Events) → refused (after_cut k h) ≡ refused h
refused-cut k h =
    let P : Events → Type 0 = λ j. refused j ≡ refused h in
    cond_both (begins_with_cut k) (Cuts ∷ h) h P (λ t. refl) (λ t. refl)

refused-ticks : (plan : List Timed) (its : List DumpItem) (k : ℕ) → refused (events_over plan its k) ≤ k * length its
refused-ticks plan its zero = omega arith
refused-ticks plan its (suc k) =
    let ih = refused-ticks plan its k in
    let before = events_over plan its k in
    let now = after_cut k before in
    let none = refused-cut k before in
    let records = refused-records (heard_in its k) (after_commands (commands_of plan k) now) in
    let commands = refused-commands (commands_of plan k) now in
    let fewer = length-until (20 * (k + 1)) (from (20 * k) its) in
    let fewest = length-from (20 * k) its in
    let step : suc k * length its ≡ k * length its + length its = omega arith in
    omega arith

records-few : (allowed at : ℕ) (bytes : List ℕ) → length (records_from allowed at bytes).records ≤ allowed
unfolding records_from
records-few allowed at [] = omega arith
records-few zero at (b ∷ bytes) = omega arith
records-few (suc n) at (b ∷ bytes) =
    let text = b ∷ bytes in
    let len = length_word text in
    let rest = records_from n (at + len) (drop len text) in
    let ih = records-few n (at + len) (drop len text) in
    let P : Capture → Type 0 = λ c. length c.records ≤ suc n in
    let whole : Capture = before (record { at = at; item = item_at text }) rest in
    let torn : Capture = cond (nat_lt (length text) len) (broken at TornRecord) whole in
    let short : Capture = cond (nat_lt len 8) (broken at ShortLength) torn in
    cond_both (nat_lt (length text) 8) (broken at TornHead) short P (λ t. omega arith)
    (λ t. cond_both (nat_lt len 8) (broken at ShortLength) torn P (λ u. omega arith)
    (λ u. cond_both (nat_lt (length text) len) (broken at TornRecord) whole P (λ v. omega arith) (λ v. omega arith)))

by-opening : (bytes : List ℕ) (r : Result ℕ Fault) → length (capture_of r bytes).records ≤ MAX_RECORDS
by-opening bytes (Err f) = omega arith
by-opening bytes (Ok start) = records-few MAX_RECORDS start (drop start bytes)

capture-few : (bytes : List ℕ) → length (capture bytes).records ≤ MAX_RECORDS
unfolding capture
capture-few bytes = by-opening bytes (opening bytes)

-- no more than the most ticks times the most records
pub refused-few : (plan : List Timed) (bytes : List ℕ) (k : ℕ) → k ≤ 4320000 → refused (events_over plan (items (capture bytes)) k) ≤ 1159641169920000
refused-few plan bytes k few =
    let all = refused-ticks plan (items (capture bytes)) k in
    let count : length (items (capture bytes)) ≤ 268435456 = omega (arith, capture-few bytes, length-map (λ (p : Placed). p.item) (capture bytes).records) in
    let most = mul-le-mul few count in
    omega arith
