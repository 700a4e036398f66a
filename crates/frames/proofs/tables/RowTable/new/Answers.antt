use Rattle.std.proofs.Common.{◌≡◌, true, List, map, Some, None, Ok, get_or, sym, ap, ◌∙◌, subst, rules}
use Rattle.frames.specs.Rows.{holds_row, row_of, unset}
use Rattle.frames.specs.declared.halves.Halves.{Halves}
use Rattle.frames.proofs.Firsts.{found_first}
use Rattle.frames.proofs.TableRows.{all_clean, unset_clean, table_refused, table_given}
use Rattle.frames.proofs.tables.RowTable.new.Goals as goal

pub returns-in-Some : goal.returns-in-Some
returns-in-Some c =
    let n = c.in_ok-len.len.places in
    let hs = c.args.rows.now in
    table_refused c.args.row_len n hs c.in_ok-len.ensures c.in-Some.row (found_first (holds_row n) hs (Some c.in-Some.row) c.in-Some.ensures)

pub returns-in_err-halves : goal.returns-in_err-halves
returns-in_err-halves c =
    let n = c.in_ok-len.len.places in
    let hs = c.args.rows.now in
    rw (table_given c.args.row_len n hs c.in_ok-len.ensures (found_first (holds_row n) hs None c.in_default.ensures)) (search rules)

pub invariant_of-result : goal.invariant_of-result
invariant_of-result c =
    let n = c.in_ok-len.len.places in
    let hs = c.args.rows.now in
    record { clean = λ k. subst (λ (xs : List Halves). holds_row n (get_or xs k unset) ≡ true) (sym (c.in_ok-halves.ensures.items_if_clones_equal (λ x y e. e))) (all_clean n hs (found_first (holds_row n) hs None c.in_default.ensures) (unset_clean n) k) }

pub returns : goal.returns
returns c =
    let n = c.in_ok-len.len.places in
    let hs = c.args.rows.now in
    ap (λ (xs : List Halves). Ok (n, map (row_of n) xs)) (c.in_ok-halves.ensures.items_if_clones_equal (λ x y e. e))
    ∙ sym (table_given c.args.row_len n hs c.in_ok-len.ensures (found_first (holds_row n) hs None c.in_default.ensures))
