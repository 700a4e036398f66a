-- What a job stands for.
use Rattle.std.specs.Prelude.{ℕ, Bool, List, map, vec_items}
use Rattle.frames.specs.declared.readings.Reading.{Reading}
use Rattle.jobfile.specs.RowPlaces.{places_of}
use Rattle.jobfile.specs.declared.jobs.Job.{Job}
use Rattle.jobfile.specs.declared.jobs.WeightKind.{WeightKind}

-- a job by its contents: a row is the list of its 128 places
pub record Contents : Type 0 where
  pub readings : List Reading
  pub rows : List (List Bool)
  pub guessed : ℕ
  pub limit : ℕ
  pub kind : WeightKind

-- the contents of a job
abbrev pub contents : Job → Contents
contents job = record {
  readings = vec_items job.readings;
  rows = map places_of (vec_items job.rows);
  guessed = job.guessed;
  limit = job.limit;
  kind = job.kind;
}
