use Rattle.udp_edge.proofs.Fields.{five_fields}
use Rattle.udp_edge.proofs.address.address.Goals as goal

pub returns-in-Some : goal.returns-in-Some
returns-in-Some c =
    five_fields c.args.word.now c.in_ok-a.a.now c.in_ok-a.fields.now c.in_ok-b.b.now c.in_ok-b.fields.now c.in_ok-c.c.now c.in_ok-c.d.now
    c.in-Some.field-0.0.now c.in-Some.field-0.1.now c.in_ok-a.ensures c.in_ok-b.ensures c.in_ok-c.ensures c.in-Some.ensures
