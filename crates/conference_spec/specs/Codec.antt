-- The codec that is meant.
use Rattle.std.specs.Prelude.{Bool}
use Rattle.g726_bits.specs.State.{start}
use Rattle.g726_bits.specs.Encoder.{after_samples, payload_of}
use Rattle.g726_codec.specs.declared.Triple.{Triple}
use Rattle.g726_codec.specs.contracts.state.TriplePartialEq.TheImpl as triple_eq
use Rattle.conference_spec.specs.Coding.{Coder}

-- the equality that the program tests triples by
abbrev pub is_same_triple : Triple → Triple → Bool
is_same_triple = (triple_eq.ghosts).eq

-- the encoder of G.726 at four rates, from its start state, and whether two triples are equal
unfoldable pub g726 : Coder
g726 = record {
  start = start;
  encoded = λ rate s frame. (after_samples rate s frame, payload_of rate s frame);
  is_same = is_same_triple;
}
