use Rattle.audit_check.specs.Sendings.{sendings_to}
use Rattle.audit_check.proofs.checking.Checking.finish.Goals as goal

pub end-requires : goal.end-requires
end-requires c =
    let h = c.requires.stands.0 in
    let s = c.requires.stands.1 in
    record { begun = (_, c.take_rest.ensures.compared h (sendings_to c.args.ticks h) s.0.0 s.2) }
