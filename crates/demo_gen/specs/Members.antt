-- The members of a demo session, numbered from 1 to 12: when they are there, and how they talk and listen.
use Rattle.std.specs.Prelude.{ℕ, ◌+◌, ◌-◌, ◌*◌, ◌/◌, ◌%◌, Bool, ◌==◌, ◌||◌, ◌&&◌, nat_lt, nat_le, if◌then◌else◌}

abbrev pub member_count : ℕ
member_count = 12

-- the members up to this one leave before the end
abbrev pub last_leaver : ℕ
last_leaver = 4

-- eight members join at the start, and the others every two seconds; times are in milliseconds
abbrev pub join_time : ℕ → ℕ
join_time m = if nat_le m 8 then 0 else 2000 * (m - 8)

abbrev pub leave_time : ℕ → ℕ
leave_time m = 20000 + 1000 * m

-- odd members send mu-law, even ones A-law
abbrev pub sends_mu : ℕ → Bool
sends_mu m = m % 2 == 1

-- the SSRC that a member talks with
abbrev pub talk_ssrc : ℕ → ℕ
talk_ssrc m = 1000 + m

-- in kbit/s: 16, 24, 32, 40 and again
abbrev pub rate : ℕ → ℕ
rate m = 16 + 8 * ((m - 1) % 4)

-- the member is present in this tick of 20 ms
abbrev pub is_present : ℕ → ℕ → Bool
is_present tick m = nat_le (join_time m / 20) tick && (nat_lt last_leaver m || nat_lt tick (leave_time m / 20))

-- a third of the members have their turn for half a second each
abbrev pub talks : ℕ → ℕ → Bool
talks tick m = is_present tick m && nat_lt ((tick / 25 + 5 * m) % 12) 4
