-- Each frame goes on, the last piece ends, and a fault leaves a front.
use Rattle.std.proofs.Common.{◌≡◌, ◌∙◌, ℕ, ◌*◌, ◌<◌, ◌≤◌, [], length, min, IfSome, sym, subst, rules, arith}
use Rattle.std.specs.List.{flat_map}
use Rattle.g726_bits.specs.Rates.{bits_of}
use Rattle.g726_bits.specs.Packing.{unpacked}
use Rattle.g726_codec.specs.Decoder.{samples_of}
use Rattle.g726_stream.specs.Samples.{octets_of}
use Rattle.g726_stream.specs.Streams.{decoded, end_of_codes}
use Rattle.g726_stream.proofs.Runs.{begun, goes_on, ends, stops, fails, on_err}
use Rattle.g726_stream.proofs.FrameSteps.{played, played_all, played_step, played_front, played_none}
use Rattle.g726_stream.proofs.CodeLists.{piece_long}
use Rattle.g726_stream.proofs.Growing.{grows_none}
use Rattle.g726_stream.proofs.decoding.decode_all.Goals as goal

pub loop-number-init : goal.loop-number-init
loop-number-init g c = record {
  going = begun (20 * bits_of c.args.rate) (played c.args.rate) (decoded c.args.rate)
      (g.S.Source.rest c.args.source.now) (g.K.Sink.held c.args.sink.now) c.start-state.result
      (λ octets. played_all c.args.rate c.start-state.result octets c.start-state.ensures.value);
  read_steady = search rules;
  write_steady = search rules;
}

pub returns-in_err-n-clause-front : goal.returns-in_err-n-clause-front
returns-in_err-n-clause-front g c =
    on_err c.from_residual.result _
    (fails (20 * bits_of c.args.rate) (played c.args.rate) (decoded c.args.rate) (g.S.Source.rest c.args.source.now)
    (g.K.Sink.held c.args.sink.now) c.loop-number.number c.loop-number.state
    (g.S.Source.rest c.loop-number.source) (g.K.Sink.held c.loop-number.sink) c.loop-number.invariant.going)

pub returns-then-n-size-clause-whole : goal.returns-then-n-size-clause-whole
returns-then-n-size-clause-whole g c =
    let rest0 = g.S.Source.rest c.args.source.now in
    let held0 = g.K.Sink.held c.args.sink.now in
    let rest = g.S.Source.rest c.loop-number.source in
    let held = g.K.Sink.held c.loop-number.sink in
    let new = g.S.Source.rest c.read_full.new.source in
    let n = c.in_ok-n.n in
    let buf = c.read_full.new.buf in
    let size = 20 * bits_of c.args.rate in
    let all : length c.loop-number.octets ≡ 100 = search rules in
    let long = piece_long c.args.rate c.bits.result c.loop-number.octets c.bits.ensures all in
    let told = subst (λ (k : ℕ). IfSome rest (λ octets. n ≡ min (length octets) k)) long c.in_ok-n.ensures.told in
    let few : n < size = subst (λ (b : ℕ). n < 20 * b) c.bits.ensures c.if-n-size.true in
    ends size (played c.args.rate) (decoded c.args.rate) rest0 held0 c.loop-number.number c.loop-number.state rest new
    held held n buf [] (end_of_codes c.args.rate) c.end_of.result
    c.loop-number.invariant.going c.in_ok-n.ensures.octets told few (grows_none held)
    (λ left is _. played_none c.args.rate c.loop-number.state left (subst (λ (k : ℕ). k < size) (sym is) few))
    c.end_of.ensures.value

pub returns-in_err-state-clause-front : goal.returns-in_err-state-clause-front
returns-in_err-state-clause-front g c =
    let rest0 = g.S.Source.rest c.args.source.now in
    let held0 = g.K.Sink.held c.args.sink.now in
    let rest = g.S.Source.rest c.loop-number.source in
    let held = g.K.Sink.held c.loop-number.sink in
    let new = g.S.Source.rest c.read_full.new.source in
    let n = c.in_ok-n.n in
    let buf = c.read_full.new.buf in
    let size = 20 * bits_of c.args.rate in
    let all : length c.loop-number.octets ≡ 100 = search rules in
    let long = piece_long c.args.rate c.bits.result c.loop-number.octets c.bits.ensures all in
    let told = subst (λ (k : ℕ). IfSome rest (λ octets. n ≡ min (length octets) k)) long c.in_ok-n.ensures.told in
    let after = g.K.Sink.held c.decode_frame.new.sink in
    let least : size ≤ n = subst (λ (b : ℕ). 20 * b ≤ n) c.bits.ensures c.if-n-size.false in
    let most : n ≤ size = subst (λ (k : ℕ). n ≤ k) long c.in_ok-n.ensures.count in
    let n_is : n ≡ size = omega (arith, least, most) in
    let still : length buf ≡ size = c.read_full.auto.buf ∙ long in
    on_err c.from_residual-in_err-state.result _
    (stops size (played c.args.rate) (decoded c.args.rate) rest0 held0 c.loop-number.number c.loop-number.state rest
    new held after n buf
    c.loop-number.invariant.going c.in_ok-n.ensures.octets told
    (λ left few same. played_front c.args.rate c.loop-number.state n buf left held after c.in_err-state.ensures.front
    n_is still few same))

pub loop-number-preserved : goal.loop-number-preserved
loop-number-preserved g c =
    let rest0 = g.S.Source.rest c.args.source.now in
    let held0 = g.K.Sink.held c.args.sink.now in
    let rest = g.S.Source.rest c.loop-number.source in
    let held = g.K.Sink.held c.loop-number.sink in
    let new = g.S.Source.rest c.read_full.new.source in
    let n = c.in_ok-n.n in
    let buf = c.read_full.new.buf in
    let size = 20 * bits_of c.args.rate in
    let all : length c.loop-number.octets ≡ 100 = search rules in
    let long = piece_long c.args.rate c.bits.result c.loop-number.octets c.bits.ensures all in
    let told = subst (λ (k : ℕ). IfSome rest (λ octets. n ≡ min (length octets) k)) long c.in_ok-n.ensures.told in
    let after = g.K.Sink.held c.decode_frame.new.sink in
    let least : size ≤ n = subst (λ (b : ℕ). 20 * b ≤ n) c.bits.ensures c.if-n-size.false in
    let most : n ≤ size = subst (λ (k : ℕ). n ≤ k) long c.in_ok-n.ensures.count in
    let n_is : n ≡ size = omega (arith, least, most) in
    let still : length buf ≡ size = c.read_full.auto.buf ∙ long in
    record {
      going = goes_on size (played c.args.rate) (decoded c.args.rate) rest0 held0 c.loop-number.number
          c.loop-number.state c.in_ok-state.state rest new held after n buf
          (flat_map octets_of (samples_of c.args.rate c.loop-number.state (unpacked c.args.rate buf)))
          c.loop-number.invariant.going c.in_ok-n.ensures.octets told n_is c.in_ok-state.ensures.written
          (λ left h same. played_step c.args.rate c.loop-number.state c.in_ok-state.state n buf left n_is still
          c.in_ok-state.ensures.next h same);
      read_steady = search rules;
      write_steady = search rules;
    }

pub returns-clause-front : goal.returns-clause-front
returns-clause-front g c =
    fails (20 * bits_of c.args.rate) (played c.args.rate) (decoded c.args.rate) (g.S.Source.rest c.args.source.now)
    (g.K.Sink.held c.args.sink.now) c.loop-number.number c.loop-number.state
    (g.S.Source.rest c.loop-number.source) (g.K.Sink.held c.loop-number.sink) c.loop-number.invariant.going
