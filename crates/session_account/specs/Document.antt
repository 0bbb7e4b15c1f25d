-- What a report says: its rows, part by part.
use Rattle.std.specs.Prelude.{ℕ, ◌-◌, ◌*◌, ◌/◌, ◌==◌, if◌then◌else◌, List, [], ◌∷◌, ◌++◌, codes, map}
use Rattle.g726_bits.specs.declared.Rate.{Rate}
use Rattle.g726_bits.specs.Rates.{bits_of}
use Rattle.session_spec.specs.declared.Summary.{Summary}
use Rattle.session_account.specs.declared.counts.Torn.{Torn}
use Rattle.session_account.specs.declared.counts.Crowd.{Crowd}
use Rattle.session_account.specs.declared.streams.Stream.{Stream}
use Rattle.session_account.specs.declared.voices.Talker.{Talker}
use Rattle.session_account.specs.declared.visits.Listener.{Listener}
use Rattle.session_account.specs.declared.runs.Runs.{Runs}
use Rattle.session_account.specs.declared.forms.Form.{Form}
use Rattle.session_account.specs.Account.{Account}
use Rattle.session_account.specs.Encoding.{count_at, packets_at, every_rate}
use Rattle.session_account.specs.Forms.{Named, begin_of, end_of, sep_of, single_text, list_text}

abbrev pub named : List ℕ → ℕ → Named
named name value = record { name = name; value = value }

abbrev pub session_row : Summary → List Named
session_row s =
    named (codes "ticks") s.ticks ∷ named (codes "runs") s.runs ∷ named (codes "packets") s.packets
    ∷ named (codes "refused") s.refused ∷ []

abbrev pub torn_row : Torn → List Named
torn_row t =
    named (codes "cut") t.cut ∷ named (codes "short") t.short ∷ named (codes "version") t.version
    ∷ named (codes "sources") t.sources ∷ named (codes "extension") t.extension ∷ named (codes "padding") t.padding ∷ []

abbrev pub crowd_row : Crowd → List Named
crowd_row c =
    named (codes "none") c.none ∷ named (codes "one") c.one ∷ named (codes "two") c.two ∷ named (codes "three") c.three ∷ []

abbrev pub talker_row : Talker → List Named
talker_row t = named (codes "member") t.member ∷ named (codes "ssrc") t.ssrc ∷ named (codes "heard") t.heard ∷ []

-- how many sequence numbers from the first to the highest no packet brought, where none came twice
abbrev pub missing : Stream → ℕ
missing s = s.next - s.first - s.packets

abbrev pub stream_row : ℕ × Stream → List Named
stream_row e =
    named (codes "ssrc") e.0 ∷ named (codes "packets") e.1.packets ∷ named (codes "missing") (missing e.1)
    ∷ named (codes "taken") e.1.taken ∷ named (codes "octets") e.1.octets ∷ named (codes "new") e.1.fresh
    ∷ named (codes "lost") e.1.lost ∷ named (codes "restarted") e.1.restarted ∷ named (codes "late") e.1.late ∷ named (codes "early") e.1.early
    ∷ named (codes "unknown") e.1.unknown ∷ named (codes "other_type") e.1.other_type ∷ named (codes "empty") e.1.empty
    ∷ named (codes "too_long") e.1.too_long ∷ named (codes "ragged") e.1.ragged ∷ []

-- the rate in kbit/s
abbrev pub listener_row : Listener → List Named
listener_row l =
    named (codes "member") l.member ∷ named (codes "rate") (8 * bits_of l.rate) ∷ named (codes "ticks") l.ticks
    ∷ named (codes "packets") l.packets ∷ []

-- packets for a hundred runs, rounded down
abbrev pub per_hundred : ℕ → ℕ → ℕ
per_hundred packets runs = if runs == 0 then 0 else 100 * packets / runs

-- a rate in kbit/s, its packets, and the runs that were made for them
abbrev pub rate_row : Rate → ℕ → ℕ → List Named
rate_row rate packets runs =
    named (codes "rate") (8 * bits_of rate) ∷ named (codes "packets") packets ∷ named (codes "runs") runs
    ∷ named (codes "packets_per_100_runs") (per_hundred packets runs) ∷ []

-- the rows of the four rates, of these listeners and these runs
unfoldable pub rate_rows : List Listener → Runs → List (List Named)
rate_rows listeners runs = map (λ rate. rate_row rate (packets_at rate listeners) (count_at rate runs)) every_rate

-- a part of one row, with what parts it from the next
abbrev pub part_text : Form → List ℕ → List Named → List ℕ
part_text form name ns = single_text form name ns ++ sep_of form

-- the parts that are one row
abbrev pub singles : Form → Account → List ℕ
singles form a =
    part_text form (codes "session") (session_row a.summary) ++ part_text form (codes "torn") (torn_row a.arrived.torn)
    ++ part_text form (codes "heard") (crowd_row a.spoken.crowd)

-- the rows of the listeners, and of the rates
unfoldable pub sent : Form → Account → List ℕ
sent form a =
    list_text form (codes "listener") (map listener_row a.listeners) ++ sep_of form ++ list_text form (codes "rate") (rate_rows a.listeners a.runs)

-- the parts that are rows of one kind
abbrev pub lists : Form → Account → List ℕ
lists form a =
    list_text form (codes "talker") (map talker_row a.spoken.talkers) ++ sep_of form
    ++ list_text form (codes "stream") (map stream_row a.arrived.streams) ++ sep_of form ++ sent form a

-- the whole report
abbrev pub document : Form → Account → List ℕ
document form a = begin_of form ++ singles form a ++ lists form a ++ end_of form
