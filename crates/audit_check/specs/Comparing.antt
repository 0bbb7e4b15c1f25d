-- How far octets were compared with an answer that is being made.
use Rattle.std.specs.Prelude.{◌≡◌, ℕ, ◌+◌, ◌<◌, ◌≤◌, ◌⊎◌, List, [], ◌++◌, length, Option, Some, None}
use Rattle.rtp_dump.specs.Writing.{output_head}
use Rattle.conference_spec.specs.Feed.{Feed}
use Rattle.conference_spec.specs.Packets.{Sending}
use Rattle.desk_run.specs.BookSide.{HandedAll}
use Rattle.audit_check.specs.declared.compare.Difference.{Difference}
use Rattle.audit_check.specs.declared.compare.Compare.{Compare}
use Rattle.audit_check.specs.declared.checking.Checking.{Checking}
use Rattle.audit_check.specs.Sendings.{answer_of, sendings_to}
use Rattle.audit_check.specs.Difference.{Judges}

-- these packets make a front of the octets
pub record IsFront (c : Compare) (ss : List Sending) : Type 0 where
  pub rest : List ℕ
  pub whole : c.out ≡ answer_of ss ++ rest
  pub at_is : c.at ≡ length (answer_of ss)
  pub counted : c.packets ≡ length ss
  pub few : c.packets ≤ c.at

-- the octets end within the line and the file head
pub record IsShort (c : Compare) (ss : List Sending) : Type 0 where
  pub none : ss ≡ []
  pub more : List ℕ
  pub cut : output_head ≡ c.out ++ more
  pub short : length c.out < 39
  pub at_is : c.at ≡ length c.out
  pub counted : c.packets ≡ 0

-- the octets differ from every answer that begins with these packets, and first differ from it there
abbrev pub Settles : List ℕ → List Sending → Difference → Type 0
Settles out ss d = (more : List Sending) → Judges out (ss ++ more) (Some d)

-- with a difference or without one, these packets were compared
abbrev pub ComparedBy : Option Difference → Compare → List Sending → Type 0
ComparedBy None c ss = IsFront c ss ⊎ IsShort c ss
ComparedBy (Some d) c ss = Settles c.out ss d

abbrev pub Compared : Compare → List Sending → Type 0
Compared c ss = ComparedBy c.found c ss

abbrev pub HasCompared : Compare → Type 0
HasCompared c = (ss : List Sending) × Compared c ss

-- the Book stands for this feed, and the packets of the ticks that it handed out were compared
abbrev pub Checks : Checking → Feed → ℕ → Type 0
Checks c h n = HandedAll c.book h n × (c.compare.ticks ≡ n) × Compared c.compare (sendings_to n h)
