-- The roster of every demo session.
use Rattle.std.specs.Prelude.{ℕ, ◌+◌, ◌*◌, ◌%◌, List, ◌++◌, codes, decimal, if◌then◌else◌}
use Rattle.std.specs.List.{range_with_len, flat_map}
use Rattle.demo_gen.specs.Members.{member_count, last_leaver, join_time, leave_time, sends_mu, talk_ssrc, rate}

abbrev pub law_word : ℕ → List ℕ
law_word m = if sends_mu m then codes "pcmu:" else codes "pcma:"

-- a number with the space in front of it
abbrev pub spaced : ℕ → List ℕ
spaced n = codes " " ++ decimal n

-- TIME join MEMBER LAW:SSRC RATE PT SSRC SEQ STAMP
abbrev pub join_line : ℕ → List ℕ
join_line m =
    decimal (join_time m) ++ codes " join " ++ decimal m ++ codes " " ++ law_word m ++ decimal (talk_ssrc m)
    ++ spaced (rate m) ++ spaced (96 + m % 4) ++ spaced (2000 + m) ++ spaced (100 * m) ++ spaced (1000 * m) ++ codes "\n"

-- TIME leave MEMBER
abbrev pub leave_line : ℕ → List ℕ
leave_line m = decimal (leave_time m) ++ codes " leave " ++ decimal m ++ codes "\n"

-- the joins, the leaves and the end
unfoldable pub roster : List ℕ
roster = flat_map join_line (range_with_len 1 member_count) ++ flat_map leave_line (range_with_len 1 last_leaver) ++ codes "30000 end\n"
