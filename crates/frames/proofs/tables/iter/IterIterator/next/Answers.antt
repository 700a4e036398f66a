use Rattle.std.proofs.Common.{◌≡◌, suc, true, ◌∷◌, List, get_or, subst}
use Rattle.frames.specs.Rows.{holds_row, unset}
use Rattle.frames.specs.declared.halves.Halves.{Halves}
use Rattle.frames.proofs.tables.iter.IterIterator.next.Goals as goal

pub invariant_of-self : goal.invariant_of-self
invariant_of-self c =
    let s = c.args.self.now in
    let e : s.rest.now ≡ c.in_ok-first.first.now ∷ c.in_ok-first.rest.now = c.in_ok-first.ensures.cases.0 in
    record { clean = λ k. subst (λ (hs : List Halves). holds_row s.len.places (get_or hs (suc k) unset) ≡ true) e (s.clean (suc k)) }

pub of_clean-requires : goal.of_clean-requires
of_clean-requires c =
    let s = c.args.self.now in
    let e : s.rest.now ≡ c.in_ok-first.first.now ∷ c.in_ok-first.rest.now = c.in_ok-first.ensures.cases.0 in
    subst (λ (hs : List Halves). holds_row s.len.places (get_or hs 0 unset) ≡ true) e (s.clean 0)
