-- The whole of what is made is a front of it.
use Rattle.std.proofs.Common.{◌≡◌, Some, [], length, IfSome, sym, subst}
use Rattle.edge_io.specs.Told.{GrowsByFront}
use Rattle.g726_stream.specs.declared.asked.Way.{Way}
use Rattle.g726_stream.specs.Streams.{encoded, decoded, end_of_samples, end_of_codes, made}
use Rattle.g726_stream.proofs.Growing.{fronts_of_whole}
use Rattle.g726_stream.proofs.calls.code.Goals as goal

pub returns-in-Ok-clause-front : goal.returns-in-Ok-clause-front
returns-in-Ok-clause-front g c =
    let rest = g.S.Source.rest c.args.input.now in
    let old = g.K.Sink.held c.args.out.now in
    let new = g.K.Sink.held c.encode_all.new.sink in
    subst (λ (way : Way). IfSome rest (λ octets. GrowsByFront old new (made way c.args.rate octets)))
    (sym c.in-Encode.is)
    (fronts_of_whole rest old new (λ octets. c.in-Ok.status ≡ end_of_samples (length octets)) (encoded c.args.rate)
    (g.S.Source.rest c.encode_all.new.source ≡ Some []) c.in-Ok.ensures.whole)

pub returns-in-Ok-decode_all-clause-front : goal.returns-in-Ok-decode_all-clause-front
returns-in-Ok-decode_all-clause-front g c =
    let rest = g.S.Source.rest c.args.input.now in
    let old = g.K.Sink.held c.args.out.now in
    let new = g.K.Sink.held c.decode_all.new.sink in
    subst (λ (way : Way). IfSome rest (λ octets. GrowsByFront old new (made way c.args.rate octets)))
    (sym c.in-Decode.is)
    (fronts_of_whole rest old new (λ octets. c.in-Ok-decode_all.status ≡ end_of_codes c.args.rate (length octets))
    (decoded c.args.rate) (g.S.Source.rest c.decode_all.new.source ≡ Some []) c.in-Ok-decode_all.ensures.whole)
