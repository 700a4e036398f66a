use Rattle.std.proofs.Common.{◌≡◌, ℕ, ◌+◌, Bool, cond, List, [], ◌∷◌, ◌++◌, map, length, get_or, take, Some, None, Ok, vec_items, sym, ap, ◌∙◌, subst, ap₂, arith, rules}
use Rattle.std.proofs.lemmas.List.{map_more, take_all}
use Rattle.frames.specs.Cells.{is_good}
use Rattle.frames.specs.Frames.{bit_for, weight_for, AllNear}
use Rattle.frames.specs.Halves.{digits_of}
use Rattle.frames.specs.declared.readings.Cell.{Cell}
use Rattle.frames.specs.declared.readings.Reading.{Reading}
use Rattle.frames.specs.declared.readings.Reading.TheVariants.{Dropout}
use Rattle.frames.proofs.Firsts.{found_first, each_passes}
use Rattle.frames.proofs.Packing.{byte_digit, some_cell, no_cell, bit_le, room_more, room_fits, digits_reading, near_more, frame_refused, frame_good}
use Rattle.frames.proofs.TableRows.{same_length}
use Rattle.frames.proofs.framing.Frame.new.Goals as goal

pub returns-in-Some-clause-value : goal.returns-in-Some-clause-value
returns-in-Some-clause-value c =
    let rs = c.args.readings.now in
    frame_refused rs c.in_ok-len.len.places c.in_ok-len.ensures c.in-Some.place (found_first is_good rs (Some c.in-Some.place) c.in-Some.ensures)

pub unreachable-requires : goal.unreachable-requires
unreachable-requires c =
    let rs = c.args.readings.now in
    let i = c.loop-reading.reading-index in
    absurd (no_cell (get_or rs i Dropout) c.in_default-cell.ensures.value (each_passes is_good rs i Dropout (found_first is_good rs None c.in_default.ensures) c.loop-reading-test.true))

pub overflow_mul-value : goal.overflow_mul-value
overflow_mul-value c =
    let l = same_length (length c.args.readings.now) c.in_ok-len.len.places c.in_ok-len.ensures in
    let p = room_fits c.loop-reading.value 0 c.loop-reading.reading-index (length c.args.readings.now) c.loop-reading.invariant.0 c.loop-reading-test.true (omega (arith, l.0, c.in_ok-len.len.most)) (omega arith) in
    omega arith

pub overflow_add-value : goal.overflow_add-value
overflow_add-value c =
    let l = same_length (length c.args.readings.now) c.in_ok-len.len.places c.in_ok-len.ensures in
    let p = room_fits c.loop-reading.value c.from.result c.loop-reading.reading-index (length c.args.readings.now) c.loop-reading.invariant.0 c.loop-reading-test.true (omega (arith, l.0, c.in_ok-len.len.most)) (bit_le c.in-Some-cell.cell.bit c.from.result (c.from.ensures ∙ byte_digit c.in-Some-cell.cell.bit)) in
    omega arith

pub returns-in_err-push-clause-value : goal.returns-in_err-push-clause-value
returns-in_err-push-clause-value c =
    let rs = c.args.readings.now in
    rw (frame_good rs c.in_ok-len.len.places c.in_ok-len.ensures (found_first is_good rs None c.in_default.ensures)) (search rules)

pub loop-reading-preserved : goal.loop-reading-preserved
loop-reading-preserved c =
    let rs = c.args.readings.now in
    let i = c.loop-reading.reading-index in
    let k = some_cell (get_or rs i Dropout) c.in-Some-cell.cell c.in-Some-cell.ensures.value in
    let b = c.from.ensures ∙ byte_digit c.in-Some-cell.cell.bit in
    let w = c.in_ok-push.ensures.items in (
      room_more c.loop-reading.value c.from.result i c.loop-reading.invariant.0 (bit_le c.in-Some-cell.cell.bit c.from.result b),
      digits_reading rs i Dropout c.loop-reading.value c.from.result c.loop-reading-test.true c.loop-reading.invariant.1 (b ∙ ap (λ (x : Cell). cond x.bit 1 0) k),
      w ∙ ap₂ (λ (xs : List ℕ) (x : Cell). xs ++ x.weight ∷ []) c.loop-reading.invariant.2 k ∙ sym (map_more weight_for rs i Dropout c.loop-reading-test.true),
      subst (AllNear (take (i + 1) rs)) (sym w) (near_more rs i Dropout (vec_items c.loop-reading.weights) c.in-Some-cell.cell.weight c.loop-reading-test.true c.loop-reading.invariant.3 c.in-Some-cell.ensures.near),
    )

pub returns : goal.returns
returns c =
    let rs = c.args.readings.now in
    let all = take_all c.loop-reading.reading-index rs c.loop-reading-test.false in
    let e : c.in_ok-len.len.places ≡ c.loop-reading.reading-index = (same_length (length rs) c.in_ok-len.len.places c.in_ok-len.ensures).0 ∙ omega arith in
    record {
      value =
          ap₂ (λ (xs : List Bool) (ws : List ℕ). Ok (xs, ws)) (c.spell-bits.ensures ∙ ap (λ (n : ℕ). digits_of n c.loop-reading.value) e ∙ c.loop-reading.invariant.1 ∙ ap (map bit_for) all) (c.loop-reading.invariant.2 ∙ ap (map weight_for) all)
          ∙ sym (frame_good rs c.in_ok-len.len.places c.in_ok-len.ensures (found_first is_good rs None c.in_default.ensures));
      near = subst (λ (xs : List Reading). AllNear xs (vec_items c.loop-reading.weights)) all c.loop-reading.invariant.3;
    }
