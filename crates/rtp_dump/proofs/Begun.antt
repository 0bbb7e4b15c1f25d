-- A reader that was begun stays so.
use Rattle.std.proofs.Common.{◌≢◌, Option, Some, None, Result, Ok, Err}
use Rattle.rtp_dump.specs.declared.item.DumpItem.{DumpItem}
use Rattle.rtp_dump.specs.declared.faults.DumpFault.{DumpFault}
use Rattle.rtp_dump.specs.Reading.{Reading, after, IsBegun}

pub begun_stays : {S : Type 0} (a : Reading S) (r : Result (Option DumpItem) DumpFault) (held : Option DumpItem) (source : S)
    → IsBegun a → IsBegun (after a r held source)
begun_stays a (Ok (Some item)) held source is = is
begun_stays a (Ok None) (Some item) source is = is
begun_stays a (Ok None) None source is = λ e. absurd (cc)
begun_stays a (Err fault) held source is = λ e. absurd (cc)
