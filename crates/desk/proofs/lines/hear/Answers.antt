use Rattle.std.proofs.Common.{◌∙◌, ap, sym, ◌-◌, take, drop}
use Rattle.session_spec.specs.Talkers.{arrival_by}
use Rattle.desk.proofs.Members.{members_set}
use Rattle.desk.proofs.Hearing.{unknown, found}
use Rattle.desk.proofs.Ways.{way_cut, way_headless, way_unknown, way_known, stopped, heard_stands}
use Rattle.desk.proofs.lines.hear.Goals as goal

pub returns-then-octets-len-clause-stands : goal.returns-then-octets-len-clause-stands
returns-then-octets-len-clause-stands c ts each =
    stopped _ _ _ _ (way_cut ts c.args.plen c.args.octets.now (rw c.from-len.ensures at c.if-octets-len.true)) each

pub returns-in-Err-clause-stands : goal.returns-in-Err-clause-stands
returns-in-Err-clause-stands c ts each =
    stopped _ _ _ _ (way_headless ts c.args.plen _ c.args.octets.now _ c.from-len.ensures c.if-octets-len.false (sym c.in-Err.ensures)) each

pub returns-in_default-clause-answer : goal.returns-in_default-clause-answer
returns-in_default-clause-answer c ts each =
    let nobody = unknown c.in-Ok.parsed.head.ssrc _ ts each (rw c.deref.ensures.value at (sym c.in_default.ensures)) in
    sym (ap arrival_by (way_unknown ts c.args.plen _ c.args.octets.now _ c.from-len.ensures c.if-octets-len.false (sym c.in-Ok.ensures) nobody))

pub returns-in_default-clause-stands : goal.returns-in_default-clause-stands
returns-in_default-clause-stands c ts each =
    let nobody = unknown c.in-Ok.parsed.head.ssrc _ ts each (rw c.deref.ensures.value at (sym c.in_default.ensures)) in
    stopped _ _ _ _ (way_unknown ts c.args.plen _ c.args.octets.now _ c.from-len.ensures c.if-octets-len.false (sym c.in-Ok.ensures) nobody) each

pub returns-clause-answer : goal.returns-clause-answer
returns-clause-answer c ts each =
    let talker = found c.in-Ok.parsed.head.ssrc c.in-Some.place _ ts _ each c.requires (rw c.deref.ensures.value at (sym c.in-Some.ensures)) c.index_mut-channel.ensures.value in
    c.hear.ensures.answer talker.talker talker.stands
    ∙ sym (ap arrival_by (way_known ts c.args.plen _ c.args.octets.now _ talker.talker c.from-len.ensures c.if-octets-len.false (sym c.in-Ok.ensures) talker.on))

pub returns-clause-stands : goal.returns-clause-stands
returns-clause-stands c ts each =
    let talker = found c.in-Ok.parsed.head.ssrc c.in-Some.place _ ts _ each c.requires (rw c.deref.ensures.value at (sym c.in-Some.ensures)) c.index_mut-channel.ensures.value in
    let goes = way_known ts c.args.plen _ c.args.octets.now _ talker.talker c.from-len.ensures c.if-octets-len.false (sym c.in-Ok.ensures) talker.on in
    heard_stands _ _ _ _ ts _ c.hear.new.self c.in-Ok.parsed.head
    (take (c.in-Ok.parsed.to - c.in-Ok.parsed.from) (drop c.in-Ok.parsed.from (take c.from-len.result c.args.octets.now)))
    talker goes (c.hear.ensures.stands talker.talker talker.stands)

pub returns-clause-same_members : goal.returns-clause-same_members
returns-clause-same_members c = members_set _ c.in-Some.place _ _ c.index_mut-channel.ensures.value c.hear.ensures.same_member
