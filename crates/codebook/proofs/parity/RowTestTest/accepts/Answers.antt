use Rattle.std.proofs.Common.{◌≡◌, Bool, not, ◌&&◌, List, length, map, sym, ap, ◌∙◌, ap₂}
use Rattle.std.proofs.lemmas.Bool.{eq-eqb}
use Rattle.std.proofs.lemmas.Iterator.Consumers.{YieldsList-from_first, YieldsList-end}
use Rattle.frames.specs.Rows.{row_of}
use Rattle.frames.specs.Tables.{table_of, table_rows}
use Rattle.frames.specs.Words.{places}
use Rattle.frames.specs.declared.words.Row.{Row}
use Rattle.frames.specs.declared.tables.iter.Iter.{Iter}
use Rattle.codebook.specs.Parity.{even_over}
use Rattle.codebook.proofs.Evens.{even_more}
use Rattle.codebook.proofs.parity.RowTestTest.accepts.Goals as goal

pub loop-row-preserved : goal.loop-row-preserved
loop-row-preserved c =
    ap₂ ◌&&◌ c.loop-row.invariant (ap not c.parity.ensures) ∙ even_more c.loop-row.yielded c.in-Some.row (places c.args.word.now.bits)

pub returns : goal.returns
returns c =
    let table = c.args.self.now.table in
    let w = places c.args.word.now.bits in
    let all = YieldsList-end (YieldsList-from_first (λ (r : Row). places r.bits) (λ (s : Iter). map (row_of s.len.places) s.rest.now) (table_rows table) c.into_iter-row-iterator.ensures.into_iter_gives) c.loop-row.yielded _ c.loop-row.yielded_by _ c.next.new.self c.in-None.is c.next.ensures.steps in
    let e : length w ≡ (table_of table).0 = sym c.len.ensures ∙ c.if-len-row_len.false ∙ c.row_len.ensures in
    c.loop-row.invariant
    ∙ ap (λ (rows : List (List Bool)). even_over rows w) all.0
    ∙ ap (λ (b : Bool). b && even_over (table_rows table) w) (sym (eq-eqb (length w) (table_of table).0 e))
