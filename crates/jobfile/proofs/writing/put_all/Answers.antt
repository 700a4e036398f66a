use Rattle.std.proofs.Common.{◌≡◌, ℕ, ◌+◌, ◌*◌, List, length, get_or, take, sym, ap, ◌∙◌, subst, ap₂, mul-zero, mul-suc, arith, add-one}
use Rattle.std.proofs.lemmas.List.{length-append, take_all}
use Rattle.std.proofs.lemmas.List.Elements.{All-more}
use Rattle.std.specs.List.{flat_map, All}
use Rattle.jobfile.specs.Pasted.{pasted}
use Rattle.jobfile.proofs.Laying.{pasted_none, joined_next, pasted_next}
use Rattle.jobfile.proofs.writing.put_all.Goals as goal

pub loop-index-init : goal.loop-index-init
loop-index-init g c = record { bytes = sym (pasted_none c.args.at c.args.out.now); long = sym (mul-zero g.row.N); back = λ k d h. absurd (omega arith) }

pub loop-index-preserved : goal.loop-index-preserved
loop-index-preserved g c =
    let f = g.T.Entry.bytes in
    let xs = c.args.entries.now in
    let i = c.loop-index.index in
    let x = c.index-entries-index.result in
    let l = c.loop-index-test.true in
    let q = c.index-entries-index.is in
    let size = g.row.N in
    let s : length (f (get_or xs i x)) ≡ size = ap (λ y. length (f y)) (sym q) ∙ c.to_bytes.ensures.sized in
    let n : size * (i + 1) ≡ size * i + size = ap (λ (k : ℕ). size * k) (add-one i) ∙ mul-suc size i in
    record {
      bytes =
          c.put.ensures
          ∙ ap₂ (λ (ys zs : List ℕ). pasted (c.args.at + size * i) ys zs) (c.to_bytes.ensures.value ∙ ap f q) c.loop-index.invariant.bytes
          ∙ pasted_next f xs i x l c.args.at (size * i) c.args.out.now (omega arith) c.loop-index.invariant.long;
      long =
          ap length (joined_next f xs i x l)
          ∙ length-append (flat_map f (take i xs)) (f (get_or xs i x))
          ∙ ap₂ ◌+◌ c.loop-index.invariant.long s
          ∙ sym n;
      back = All-more g.T.Entry.is_read_back xs i x l c.loop-index.invariant.back (subst g.T.Entry.is_read_back q c.to_bytes.ensures.back);
    }

pub returns : goal.returns
returns g c =
    let xs = c.args.entries.now in
    let e = take_all c.loop-index.index xs c.loop-index-test.false in
    record {
      bytes = c.loop-index.invariant.bytes ∙ ap (λ ys. pasted c.args.at (flat_map g.T.Entry.bytes ys) c.args.out.now) e;
      back = subst (All g.T.Entry.is_read_back) e c.loop-index.invariant.back;
    }
