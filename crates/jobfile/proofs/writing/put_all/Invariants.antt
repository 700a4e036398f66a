use Rattle.std.proofs.Common.{◌≡◌, ◌*◌, length, take}
use Rattle.std.specs.List.{flat_map, All}
use Rattle.jobfile.specs.Pasted.{pasted}
use Rattle.jobfile.proofs.writing.put_all.Given as goal

abbrev pub invariant-loop-index : goal.invariant-loop-index
invariant-loop-index g l = record {
  bytes : l.out ≡ pasted l.at (flat_map g.T.Entry.bytes (take l.index l.entries)) l.initial.out;
  long : length (flat_map g.T.Entry.bytes (take l.index l.entries)) ≡ g.row.N * l.index;
  back : All g.T.Entry.is_read_back (take l.index l.entries);
}
