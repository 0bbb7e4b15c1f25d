use Rattle.std.proofs.Common.{◌≡◌, ◌∙◌, ℕ, ◌+◌, List, [], ◌∷◌, ◌++◌, Some, Bor, ap, sym, take}
use Rattle.std.specs.Prelude.{slice_get}
use Rattle.std.proofs.lemmas.List.{take_more, map-append}
use Rattle.std.proofs.lemmas.Option.{slice_get_within, get_or_from_slice_get}
use Rattle.program_edge.specs.Words.{texts_of}
use Rattle.program_edge.proofs.words.lend.Goals as goal

-- the first words and the one after them are the first words of one more
one_more : (words : List (List ℕ)) (lent : List (Bor (List ℕ))) (word : Bor (List ℕ)) (i : ℕ) → slice_get words i ≡ Some word.now → texts_of lent ≡ take i words → texts_of (lent ++ word ∷ []) ≡ take (i + 1) words
one_more words lent word i there before =
    map-append (λ (w : Bor (List ℕ)). w.now) lent (word ∷ [])
    ∙ ap (λ (texts : List (List ℕ)). texts ++ word.now ∷ []) before
    ∙ ap (λ (last : List ℕ). take i words ++ last ∷ []) (sym (get_or_from_slice_get words i word.now word.now there))
    ∙ sym (take_more words i word.now (slice_get_within words i word.now there))

pub loop-i-preserved : goal.loop-i-preserved
loop-i-preserved c = rw c.in_ok-push.ensures.items (one_more _ _ c.word.result _ c.word.ensures c.loop-i.invariant)
