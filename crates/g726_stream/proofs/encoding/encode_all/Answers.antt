-- Each frame goes on, the last one ends, and a fault leaves a front.
use Rattle.std.proofs.Common.{◌≡◌, ◌∙◌, ℕ, length, take, min, IfSome, sym, ap, subst, rules, arith}
use Rattle.std.proofs.lemmas.List.{length-take-le}
use Rattle.g726_stream.specs.Streams.{encoded, end_of_samples}
use Rattle.g726_stream.proofs.Runs.{begun, goes_on, ends, stops, fails, on_err}
use Rattle.g726_stream.proofs.FrameSteps.{coded, coded_all, coded_step, coded_front}
use Rattle.g726_stream.proofs.encoding.encode_all.Goals as goal

pub loop-number-init : goal.loop-number-init
loop-number-init g c = record {
  going = begun 320 (coded c.args.rate) (encoded c.args.rate) (g.S.Source.rest c.args.source.now)
      (g.K.Sink.held c.args.sink.now) c.start-state.result
      (λ octets. coded_all c.args.rate c.start-state.result octets c.start-state.ensures.value);
  issued = search rules;
  read_steady = search rules;
  write_steady = search rules;
}

pub returns-in_err-n-clause-front : goal.returns-in_err-n-clause-front
returns-in_err-n-clause-front g c =
    on_err c.from_residual.result _
    (fails 320 (coded c.args.rate) (encoded c.args.rate) (g.S.Source.rest c.args.source.now)
    (g.K.Sink.held c.args.sink.now) c.loop-number.number c.loop-number.state
    (g.S.Source.rest c.loop-number.source) (g.K.Sink.held c.loop-number.sink) c.loop-number.invariant.going)

pub returns-in_err-state-clause-front : goal.returns-in_err-state-clause-front
returns-in_err-state-clause-front g c =
    let rest0 = g.S.Source.rest c.args.source.now in
    let held0 = g.K.Sink.held c.args.sink.now in
    let rest = g.S.Source.rest c.loop-number.source in
    let held = g.K.Sink.held c.loop-number.sink in
    let new = g.S.Source.rest c.read_full.new.source in
    let n = c.in_ok-n.n in
    let buf = c.read_full.new.buf in
    let long : length c.loop-number.octets ≡ 320 = search rules in
    let after = g.K.Sink.held c.encode_frame.new.sink in
    let told = subst (λ (k : ℕ). IfSome rest (λ octets. n ≡ min (length octets) k)) long c.in_ok-n.ensures.told in
    on_err c.from_residual-in_err-state.result _
    (stops 320 (coded c.args.rate) (encoded c.args.rate) rest0 held0 c.loop-number.number c.loop-number.state rest new
    held after n buf
    c.loop-number.invariant.going c.in_ok-n.ensures.octets told
    (λ left few same. coded_front c.args.rate c.loop-number.state n buf left held after c.in_err-state.ensures.front
    few same))

pub returns-then-n-lt-FRAME_OCTETS-clause-whole : goal.returns-then-n-lt-FRAME_OCTETS-clause-whole
returns-then-n-lt-FRAME_OCTETS-clause-whole g c =
    let rest0 = g.S.Source.rest c.args.source.now in
    let held0 = g.K.Sink.held c.args.sink.now in
    let rest = g.S.Source.rest c.loop-number.source in
    let held = g.K.Sink.held c.loop-number.sink in
    let new = g.S.Source.rest c.read_full.new.source in
    let n = c.in_ok-n.n in
    let buf = c.read_full.new.buf in
    let long : length c.loop-number.octets ≡ 320 = search rules in
    let after = g.K.Sink.held c.encode_frame.new.sink in
    let told = subst (λ (k : ℕ). IfSome rest (λ octets. n ≡ min (length octets) k)) long c.in_ok-n.ensures.told in
    ends 320 (coded c.args.rate) (encoded c.args.rate) rest0 held0 c.loop-number.number c.loop-number.state rest new
    held after n buf
    (coded c.args.rate c.loop-number.state (take n buf)) end_of_samples c.end_of.result
    c.loop-number.invariant.going c.in_ok-n.ensures.octets told c.if-n-lt-FRAME_OCTETS.true
    c.in_ok-state.ensures.written
    (λ left _ same. ap (coded c.args.rate c.loop-number.state) (sym same)) c.end_of.ensures.value

pub loop-number-preserved : goal.loop-number-preserved
loop-number-preserved g c =
    let rest0 = g.S.Source.rest c.args.source.now in
    let held0 = g.K.Sink.held c.args.sink.now in
    let rest = g.S.Source.rest c.loop-number.source in
    let held = g.K.Sink.held c.loop-number.sink in
    let new = g.S.Source.rest c.read_full.new.source in
    let n = c.in_ok-n.n in
    let buf = c.read_full.new.buf in
    let long : length c.loop-number.octets ≡ 320 = search rules in
    let still : length buf ≡ 320 = search rules in
    let after = g.K.Sink.held c.encode_frame.new.sink in
    let told = subst (λ (k : ℕ). IfSome rest (λ octets. n ≡ min (length octets) k)) long c.in_ok-n.ensures.told in
    let n_is : n ≡ 320 = omega (arith, c.in_ok-n.ensures.count, long) in
    let next_is = c.in_ok-state.ensures.next (length-take-le n buf (omega (arith, still)) ∙ n_is) in
    record {
      going = goes_on 320 (coded c.args.rate) (encoded c.args.rate) rest0 held0 c.loop-number.number
          c.loop-number.state c.in_ok-state.state rest new held after n buf
          (coded c.args.rate c.loop-number.state (take n buf)) c.loop-number.invariant.going c.in_ok-n.ensures.octets
          told n_is c.in_ok-state.ensures.written
          (λ left h same. coded_step c.args.rate c.loop-number.state c.in_ok-state.state n buf left n_is next_is h
          same);
      issued = search rules;
      read_steady = search rules;
      write_steady = search rules;
    }

pub returns-clause-front : goal.returns-clause-front
returns-clause-front g c =
    fails 320 (coded c.args.rate) (encoded c.args.rate) (g.S.Source.rest c.args.source.now)
    (g.K.Sink.held c.args.sink.now) c.loop-number.number c.loop-number.state
    (g.S.Source.rest c.loop-number.source) (g.K.Sink.held c.loop-number.sink) c.loop-number.invariant.going
