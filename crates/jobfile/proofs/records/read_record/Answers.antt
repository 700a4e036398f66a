use Rattle.std.proofs.Common.{◌≡◌, rules}
use Rattle.jobfile.specs.Records.{reading_of}
use Rattle.jobfile.proofs.Backs.{record_back}
use Rattle.jobfile.proofs.records.read_record.Goals as goal

pub returns-clause-back : goal.returns-clause-back
returns-clause-back c =
    let v : c.reading_of_parts.result ≡ reading_of c.args.record.now = search rules in
    record_back _ _ v c.told-record c.fits-record
