-- What is known of a trailer that is good.
use Rattle.std.proofs.Common.{◌≡◌, ℕ, ◌+◌, ◌*◌, ◌<◌, ◌≤◌, Bool, true, false, cond, List, length, get_or, Some, None, Ok, Err, Option, sym, refl, ap, ◌∙◌, arith}
use Rattle.std.proofs.lemmas.Bool.Decides.{nat_tests}
use Rattle.frames.specs.Halves.{is_length}
use Rattle.jobfile.specs.Trailers.{trailer_start, has_form, good_numbers, kind_of, trailer_at, is_good_trailer, trailer_of_kind, trailer_of, is_laid_out, laid_out, trailer_in}
use Rattle.jobfile.specs.declared.faults.FileFault.TheVariants.{Form, Layout}
use Rattle.jobfile.specs.declared.jobs.WeightKind.{WeightKind}
use Rattle.jobfile.specs.declared.trailers.Trailer.{Trailer}

-- the numbers of a job are small
pub record Small (n rowCount guesses most : ℕ) : Type 0 where
  pub measured : is_length n ≡ true
  pub some : 1 ≤ n
  pub short : n ≤ 128
  pub few : rowCount ≤ 32
  pub fewer : guesses ≤ 6
  pub limited : most ≤ 1024

pub small : (n rowCount guesses most : ℕ) → good_numbers n rowCount guesses most ≡ true → Small n rowCount guesses most
small n rowCount guesses most e = record {
  measured = grind (arith, nat_tests);
  some = grind (arith, nat_tests);
  short = grind (arith, nat_tests);
  few = grind (arith, nat_tests);
  fewer = grind (arith, nat_tests);
  limited = grind (arith, nat_tests);
}

-- where a section ends
pub readings_inside : (t : Trailer) (end : ℕ) → is_laid_out t end ≡ true → t.readings_at + 9 * t.n ≤ end
readings_inside t end e = grind (arith, nat_tests)

pub rows_inside : (t : Trailer) (end : ℕ) → is_laid_out t end ≡ true → 0 < t.rows → t.rows_at + 16 * t.rows ≤ end
rows_inside t end e h = grind (arith, nat_tests)

module _ (xs : List ℕ) where
  pub record Good (t : Trailer) : Type 0 where
    pub formed : has_form xs ≡ true
    pub weighs : kind_of (get_or xs (trailer_start xs + 14) 0) ≡ Some t.kind
    pub is : t ≡ trailer_at xs (trailer_start xs) t.kind
    pub numbered : is_good_trailer t ≡ true
    pub laid : is_laid_out t (trailer_start xs) ≡ true

  laid_parts : (t u : Trailer) (b : Bool) → Ok t ≡ cond b (Ok u) (Err Layout) → (b ≡ true) × (t ≡ u)
  laid_parts t u true e = (refl, cc)
  laid_parts t u false e = absurd (cc)

  in_parts : (t : Trailer) (b : Bool) (o : Option Trailer) → Ok t ≡ cond b (laid_out (trailer_start xs) o) (Err Form) → (b ≡ true) × (o ≡ Some t) × (is_laid_out t (trailer_start xs) ≡ true)
  in_parts t false o e = absurd (cc)
  in_parts t true None e = absurd (cc)
  in_parts t true (Some u) e = let p = laid_parts t u (is_laid_out u (trailer_start xs)) e in (refl, ap Some (sym p.1), ap (λ (v : Trailer). is_laid_out v (trailer_start xs)) p.1 ∙ p.0)

  checked_parts : (t u : Trailer) (b : Bool) → cond b (Some u) None ≡ Some t → (b ≡ true) × (t ≡ u)
  checked_parts t u true e = (refl, cc)
  checked_parts t u false e = absurd (cc)

  kind_parts : (t : Trailer) (o : Option WeightKind) → trailer_of_kind xs o ≡ Some t → (o ≡ Some t.kind) × (t ≡ trailer_at xs (trailer_start xs) t.kind) × (is_good_trailer t ≡ true)
  kind_parts t None e = absurd (cc)
  kind_parts t (Some w) e =
      let p = checked_parts t (trailer_at xs (trailer_start xs) w) (is_good_trailer (trailer_at xs (trailer_start xs) w)) e in
      let k : t.kind ≡ w = ap (λ (v : Trailer). v.kind) p.1 in
      (ap Some (sym k), p.1 ∙ ap (trailer_at xs (trailer_start xs)) (sym k), ap is_good_trailer p.1 ∙ p.0)

  pub good_trailer : (t : Trailer) → Ok t ≡ trailer_in xs → Good t
  good_trailer t e =
      let p = in_parts t (has_form xs) (trailer_of xs) e in
      let q = kind_parts t (kind_of (get_or xs (trailer_start xs + 14) 0)) p.1 in
      record { formed = p.0; weighs = q.0; is = q.1; numbered = q.2; laid = p.2 }

  -- what a file's trailer points at lies in the file
  module _ (t : Trailer) (e : Ok t ≡ trailer_in xs) where
    pub readings_fit : t.readings_at + 9 * t.n ≤ length xs
    readings_fit = omega (arith, readings_inside t (trailer_start xs) (good_trailer t e).laid)

    pub rows_fit : 0 < t.rows → t.rows_at + 16 * t.rows ≤ length xs
    rows_fit h = omega (arith, rows_inside t (trailer_start xs) (good_trailer t e).laid h)
