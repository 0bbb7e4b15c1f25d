use Rattle.desk.proofs.tests.desk_of_none.Goals as goal

pub apply-requires : goal.apply-requires
apply-requires c = record { events = c.in_ok-desk.ensures.0; stands = c.in_ok-desk.ensures.1; admits = tt }
