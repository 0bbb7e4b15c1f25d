use Rattle.roster_text.proofs.Ordering.{roster_in_order}
use Rattle.roster_desk.proofs.Talking.{none_talks, placed_told}
use Rattle.roster_desk.proofs.laws.joiner_is_no_talker.Goals as goal

pub returns : goal.returns
returns c told before after at member talk listen h spelled parted follow =
    none_talks _ member talk listen h (placed_told told.timed before after _ parted (roster_in_order told spelled).placed) follow
