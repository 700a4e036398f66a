use Rattle.std.proofs.Common.{is_some, vec_items, sym, ap, ◌∙◌}
use Rattle.std.proofs.lemmas.Result.{err_from_is_err_and}
use Rattle.std.proofs.lemmas.Bool.{false≢true}
use Rattle.frames.specs.Faults.{refused}
use Rattle.frames.specs.Frames.{frame_of}
use Rattle.listing.proofs.GoodRecords.{frame_read}
use Rattle.listing.proofs.reads.read_frame.Goals as goal

pub returns-in_err-new : goal.returns-in_err-new
returns-in_err-new c =
    let p = err_from_is_err_and c.from_residual-in_err-new.result c.from_residual-in_err-new.ensures.1 in
    let good = ap refused (ap frame_of c.deref.ensures.value ∙ frame_read c.args.bytes.now (vec_items c.in_ok-readings.readings) c.in_ok-readings.ensures) in
    rw (p.1, p.2) (λ z. absurd (false≢true (sym (ap is_some (c.in_err-new.ensures.value ∙ good)) ∙ z)))
