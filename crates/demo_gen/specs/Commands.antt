-- What the roster of every demo session tells.
use Rattle.std.specs.Prelude.{ℕ, ◌+◌, ◌*◌, ◌%◌, ◌==◌, if◌then◌else◌, ◌++◌, map, Some}
use Rattle.std.specs.List.{range_with_len}
use Rattle.g726_bits.specs.declared.Rate.{Rate}
use Rattle.g726_bits.specs.declared.Rate.TheVariants.{R16, R24, R32, R40}
use Rattle.roster_text.specs.declared.commands.Law.TheVariants.{Mu, A}
use Rattle.roster_text.specs.declared.commands.Command.TheVariants.{Join, Leave}
use Rattle.roster_text.specs.declared.commands.Timed.{Timed}
use Rattle.roster_text.specs.Roster.{Told}
use Rattle.demo_gen.specs.Members.{member_count, last_leaver, join_time, leave_time, sends_mu, talk_ssrc}

-- 16, 24, 32, 40 kbit/s and again
abbrev pub rate_of : ℕ → Rate
rate_of m =
    if m % 4 == 1 then R16
    else if m % 4 == 2 then R24
    else if m % 4 == 3 then R32
    else R40

abbrev pub join : ℕ → Timed
join m = record {
  at = join_time m;
  command = Join m
      (Some (record { law = if sends_mu m then Mu else A; ssrc = talk_ssrc m }))
      (Some (record { rate = rate_of m; pt = 96 + m % 4; ssrc = 2000 + m; first_seq = 100 * m; first_stamp = 1000 * m; ticks = 1 }));
}

abbrev pub leave : ℕ → Timed
leave m = record { at = leave_time m; command = Leave m }

-- the joins, the leaves and the end
unfoldable pub told : Told
told = record { timed = map join (range_with_len 1 member_count) ++ map leave (range_with_len 1 last_leaver); end = 30000 }
