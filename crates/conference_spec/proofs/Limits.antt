-- When a tick can be closed.
use Rattle.std.proofs.Common.{◌≡◌, ◌+◌, ◌<◌, true, false, not, ◌&&◌, ap, arith}
use Rattle.std.specs.Prelude.{nat_lt}
use Rattle.std.proofs.lemmas.Bool.{and_from, and_left, and_right, lt-ltb, le-ltb, not_from_false, not_from_true}
use Rattle.talk_mix.specs.declared.ticks.Tick.{Tick}
use Rattle.conference_spec.specs.declared.Entry.TheVariants.{Close}
use Rattle.conference_spec.specs.Coding.{Coder}
use Rattle.conference_spec.specs.Feed.{Feed, closes, collects, ended, kept, may_follow}

pub close-over : (coder : Coder) (h : Feed) (tick : Tick) → closes h ≡ 4320000 → may_follow coder h (Close tick) ≡ false
close-over coder h tick e =
    and_left (nat_lt (closes h) 4320000) (nat_lt (kept h) 18000 && (nat_lt (closes h) (collects h + 64) && not (ended h)))
    (le-ltb (closes h) 4320000 (omega arith))

pub close-long : (coder : Coder) (h : Feed) (tick : Tick) → kept h ≡ 18000 → may_follow coder h (Close tick) ≡ false
close-long coder h tick e =
    let rest = nat_lt (closes h) (collects h + 64) && not (ended h) in
    and_right (nat_lt (closes h) 4320000) (nat_lt (kept h) 18000 && rest)
    (and_left (nat_lt (kept h) 18000) rest (ap (λ n. nat_lt n 18000) e))

pub close-backlog : (coder : Coder) (h : Feed) (tick : Tick) → closes h ≡ collects h + 64 → may_follow coder h (Close tick) ≡ false
close-backlog coder h tick e =
    let rest = nat_lt (closes h) (collects h + 64) && not (ended h) in
    and_right (nat_lt (closes h) 4320000) (nat_lt (kept h) 18000 && rest)
    (and_right (nat_lt (kept h) 18000) rest
    (and_left (nat_lt (closes h) (collects h + 64)) (not (ended h)) (le-ltb (closes h) (collects h + 64) (omega arith))))

pub close-ended : (coder : Coder) (h : Feed) (tick : Tick) → ended h ≡ true → may_follow coder h (Close tick) ≡ false
close-ended coder h tick e =
    let rest = nat_lt (closes h) (collects h + 64) && not (ended h) in
    and_right (nat_lt (closes h) 4320000) (nat_lt (kept h) 18000 && rest)
    (and_right (nat_lt (kept h) 18000) rest
    (and_right (nat_lt (closes h) (collects h + 64)) (not (ended h)) (not_from_true (ended h) e)))

pub close-open : (coder : Coder) (h : Feed) (tick : Tick) → closes h < 4320000 → kept h < 18000 → closes h < collects h + 64 → ended h ≡ false
    → may_follow coder h (Close tick) ≡ true
close-open coder h tick one two three four =
    let rest = nat_lt (closes h) (collects h + 64) && not (ended h) in
    and_from (nat_lt (closes h) 4320000) (nat_lt (kept h) 18000 && rest) (lt-ltb (closes h) 4320000 one)
    (and_from (nat_lt (kept h) 18000) rest (lt-ltb (kept h) 18000 two)
    (and_from (nat_lt (closes h) (collects h + 64)) (not (ended h)) (lt-ltb (closes h) (collects h + 64) three) (not_from_false (ended h) four)))
