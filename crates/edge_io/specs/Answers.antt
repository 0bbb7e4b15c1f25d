-- Which answers of an end say that a call failed, and which that there was no memory.
use Rattle.std.specs.Prelude.{Bool, true, false, Result, Ok, Err}
use Rattle.edge_io.specs.declared.faults.PutFault.{PutFault}
use Rattle.edge_io.specs.declared.faults.PutFault.TheVariants as put
use Rattle.edge_io.specs.declared.faults.TakeFault.{TakeFault}
use Rattle.edge_io.specs.declared.faults.TakeFault.TheVariants as take

module _ {T : Type 0} where
  -- a write failed
  abbrev pub put_failed : Result T PutFault → Bool
  put_failed (Ok x) = false
  put_failed (Err put.Failed) = true
  put_failed (Err put.Memory) = false

  -- a sink had no memory
  abbrev pub put_lacked : Result T PutFault → Bool
  put_lacked (Ok x) = false
  put_lacked (Err put.Failed) = false
  put_lacked (Err put.Memory) = true

  -- a call on a shelf failed
  abbrev pub take_failed : Result T TakeFault → Bool
  take_failed (Ok x) = false
  take_failed (Err take.Failed) = true
  take_failed (Err take.TooLong) = false
  take_failed (Err take.Memory) = false
