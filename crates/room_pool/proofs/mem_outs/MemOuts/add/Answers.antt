use Rattle.std.proofs.Common.{◌≡◌, ◌≢◌, ◌++◌, ◌∷◌, [], ℕ, List, Some, None, refl, sym, ap, ◌∙◌}
use Rattle.room_pool.specs.Kept.{Holding, held_among}
use Rattle.room_pool.proofs.Filling.{StandsAt, stands_lent, nowhere_lent, held_there, held_nowhere, held_changed, others_kept, held_pushed, others_behind, on_err, held_none}
use Rattle.room_pool.proofs.mem_outs.MemOuts.add.Goals as goal

pub returns-in_err-add-in-Some-clause-none : goal.returns-in_err-add-in-Some-clause-none
returns-in_err-add-in-Some-clause-none c =
    let items = c.self.inside.files.items in
    let name = c.args.name.now in
    let f = c.index_mut-file.result.now in
    let s = stands_lent items _ name _ c.in-Some.at f c.as_slice.ensures.value c.as_bytes.ensures.value c.in-Some.ensures c.index_mut-file.ensures.value in
    let before : held_among items name ≡ held_among c.args.self.now.files name = ap (λ o. held_among o.files name) c.self.view_is in
    on_err c.from_residual.result _ (held_changed items name c.in-Some.at f c.add.new.self s c.add.ensures.name ∙ c.in_err-add-in-Some.ensures.none ∙ sym (held_there items name c.in-Some.at f s) ∙ before)

pub returns-in_err-add-in-Some-clause-others : goal.returns-in_err-add-in-Some-clause-others
returns-in_err-add-in-Some-clause-others c = λ other apart.
    let items = c.self.inside.files.items in
    let name = c.args.name.now in
    let f = c.index_mut-file.result.now in
    let s = stands_lent items _ name _ c.in-Some.at f c.as_slice.ensures.value c.as_bytes.ensures.value c.in-Some.ensures c.index_mut-file.ensures.value in
    others_kept items name c.in-Some.at f c.add.new.self s c.index_mut-file.ensures.value c.add.ensures.name other apart ∙ ap (λ o. held_among o.files other) c.self.view_is

pub returns-in_ok-add-in-Some-clause-whole : goal.returns-in_ok-add-in-Some-clause-whole
returns-in_ok-add-in-Some-clause-whole c =
    let items = c.self.inside.files.items in
    let name = c.args.name.now in
    let f = c.index_mut-file.result.now in
    let s = stands_lent items _ name _ c.in-Some.at f c.as_slice.ensures.value c.as_bytes.ensures.value c.in-Some.ensures c.index_mut-file.ensures.value in
    let before : f.octets ≡ held_among c.args.self.now.files name = sym (held_there items name c.in-Some.at f s) ∙ ap (λ o. held_among o.files name) c.self.view_is in
    ap (λ (h : List ℕ). Some h)
    (held_changed items name c.in-Some.at f c.add.new.self s c.add.ensures.name ∙ c.in_ok-add-in-Some.ensures.whole ∙ ap (λ (h : List ℕ). h ++ c.args.octets.now) before)

pub returns-in_ok-add-in-Some-clause-others : goal.returns-in_ok-add-in-Some-clause-others
returns-in_ok-add-in-Some-clause-others c = λ other apart.
    let items = c.self.inside.files.items in
    let name = c.args.name.now in
    let f = c.index_mut-file.result.now in
    let s = stands_lent items _ name _ c.in-Some.at f c.as_slice.ensures.value c.as_bytes.ensures.value c.in-Some.ensures c.index_mut-file.ensures.value in
    others_kept items name c.in-Some.at f c.add.new.self s c.index_mut-file.ensures.value c.add.ensures.name other apart ∙ ap (λ o. held_among o.files other) c.self.view_is

pub returns-in_ok-push-in-None-clause-whole : goal.returns-in_ok-push-in-None-clause-whole
returns-in_ok-push-in-None-clause-whole c =
    let items = c.self.inside.files.items in
    let name = c.args.name.now in
    let g = c.in_ok-new-in-None.field-0 in
    let none = nowhere_lent items _ name _ c.as_slice.ensures.value c.as_bytes.ensures.value c.in-None.ensures in
    let named : g.name ≡ name = ap (λ f. f.name) c.in_ok-new-in-None.ensures ∙ c.as_bytes-in-None.ensures.value in
    let before : held_among c.args.self.now.files name ≡ [] = ap (λ o. held_among o.files name) (sym c.self.view_is) ∙ held_none items name none in
    rw (c.in_ok-push-in-None.ensures.items, before) (ap (λ (h : List ℕ). Some h) (held_pushed items name g none named ∙ ap (λ f. f.octets) c.in_ok-new-in-None.ensures))

pub returns-in_ok-push-in-None-clause-others : goal.returns-in_ok-push-in-None-clause-others
returns-in_ok-push-in-None-clause-others c = λ other apart.
    let items = c.self.inside.files.items in
    let name = c.args.name.now in
    let g = c.in_ok-new-in-None.field-0 in
    let named : g.name ≡ name = ap (λ f. f.name) c.in_ok-new-in-None.ensures ∙ c.as_bytes-in-None.ensures.value in
    rw c.in_ok-push-in-None.ensures.items (others_behind items name g named other apart ∙ ap (λ o. held_among o.files other) c.self.view_is)
