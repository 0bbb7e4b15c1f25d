-- The octets make one payload, or none.
use Rattle.std.proofs.Common.{◌≡◌, ◌∙◌, ℕ, List, sym, ap, subst, arith}
use Rattle.edge_io.specs.Told.{Grows, GrowsByFront}
use Rattle.g726_bits.specs.Encoder.{after_samples, payload_of}
use Rattle.g726_codec.specs.Run.{Run}
use Rattle.g726_stream.specs.Samples.{samples_in}
use Rattle.g726_stream.specs.Streams.{filled}
use Rattle.g726_stream.proofs.SampleLists.{length-samples}
use Rattle.g726_stream.proofs.FrameLists.{nothing_left, one_frame, filled_whole}
use Rattle.g726_stream.proofs.Growing.{grows_none}
use Rattle.g726_stream.proofs.Runs.{on_err}
use Rattle.g726_stream.proofs.encoding.encode_frame.Goals as goal

pub returns-then-octets-lt2-clause-written : goal.returns-then-octets-lt2-clause-written
returns-then-octets-lt2-clause-written g c =
    let held = g.K.Sink.held c.args.sink.now in
    subst (λ (p : List ℕ). Grows held held p)
    (sym (nothing_left c.args.rate c.args.state c.args.octets.now c.if-octets-lt2.true)) (grows_none held)

pub returns-in_err-write_all-clause-front : goal.returns-in_err-write_all-clause-front
returns-in_err-write_all-clause-front g c =
    let old = g.K.Sink.held c.args.sink.now in
    let new = g.K.Sink.held c.write_all.new.sink in
    let octets = c.args.octets.now in
    let out : c.as_slice.result.now ≡ payload_of c.args.rate c.args.state (filled (samples_in octets)) =
    c.as_slice.ensures.value
    ∙ (c.payload.ensures ∙ (ap (λ (run : Run). payload_of run.rate run.before run.mix) c.encode-done.ensures
    ∙ ap (payload_of c.args.rate c.args.state) c.frame_of.ensures)) in
    on_err c.from_residual.result _
    (subst (λ (p : List ℕ). GrowsByFront old new p) (out
    ∙ sym (one_frame c.args.rate c.args.state octets (omega arith) c.requires.size))
    c.in_err-write_all.ensures.fault)

pub returns-clause-written : goal.returns-clause-written
returns-clause-written g c =
    let old = g.K.Sink.held c.args.sink.now in
    let new = g.K.Sink.held c.write_all.new.sink in
    let octets = c.args.octets.now in
    let out : c.as_slice.result.now ≡ payload_of c.args.rate c.args.state (filled (samples_in octets)) =
    c.as_slice.ensures.value
    ∙ (c.payload.ensures ∙ (ap (λ (run : Run). payload_of run.rate run.before run.mix) c.encode-done.ensures
    ∙ ap (payload_of c.args.rate c.args.state) c.frame_of.ensures)) in
    subst (λ (p : List ℕ). Grows old new p) (out
    ∙ sym (one_frame c.args.rate c.args.state octets (omega arith) c.requires.size)) c.in_ok-write_all.ensures.whole

pub returns-clause-next : goal.returns-clause-next
returns-clause-next g c long =
    c.after.ensures.value ∙ (ap (λ (run : Run). after_samples run.rate run.before run.mix) c.encode-done.ensures
    ∙ ap (after_samples c.args.rate c.args.state) (c.frame_of.ensures
    ∙ filled_whole (samples_in c.args.octets.now) (omega (arith, length-samples c.args.octets.now, long))))
