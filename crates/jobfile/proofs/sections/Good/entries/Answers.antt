use Rattle.std.proofs.Common.{map, Ok, vec_items, sym, ap, ◌∙◌, arith}
use Rattle.std.proofs.lemmas.List.{map_push}
use Rattle.jobfile.proofs.Gathering.{gathered_more, no_fault}
use Rattle.jobfile.proofs.sections.Good.entries.Goals as goal

pub unreachable-requires : goal.unreachable-requires
unreachable-requires g c =
    let s = c.args.self.now.section in
    no_fault (g.S.Section.gives s) c.loop-index.index (g.S.Section.count s) _ c.in_default.field-0 c.args.self.now.good c.loop-index.invariant (sym c.in_default.ensures) (omega arith)

pub loop-index-preserved : goal.loop-index-preserved
loop-index-preserved g c =
    let s = c.args.self.now.section in
    let m = g.S.Section.meaning in
    let v = vec_items c.loop-index.entries in
    gathered_more (g.S.Section.gives s) c.loop-index.index (map m v) (m c.in-Ok.entry) c.loop-index.invariant (sym c.in-Ok.ensures)
    ∙ ap Ok (sym (map_push m v c.in-Ok.entry) ∙ ap (map m) (sym c.in_ok-push.ensures.items))
