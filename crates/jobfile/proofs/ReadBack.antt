-- A job is read back from the file that it is written to.
use Rattle.std.proofs.Common.{◌≡◌, ℕ, zero, suc, ◌+◌, ◌*◌, ◌<◌, ◌≤◌, Bool, true, List, [], ◌∷◌, ◌++◌, map, length, get_or, take, drop, None, Ok, Err, vec_items, Result, sym, refl, ap, ◌∙◌, ap₂, mul-zero, mul-suc, add-one, arith}
use Rattle.std.proofs.lemmas.List.{append_assoc, length-append, take_at, drop_at, drop-drop, take_more, take_all, get_or-map, length-map}
use Rattle.std.proofs.lemmas.Bool.{cond-true}
use Rattle.std.proofs.lemmas.Bool.Decides.{nat_tests}
use Rattle.std.specs.List.{flat_map}
use Rattle.frames.specs.Rows.{unset}
use Rattle.frames.specs.declared.readings.Reading.{Reading}
use Rattle.frames.specs.declared.readings.Reading.TheVariants.{Dropout}
use Rattle.frames.proofs.Firsts.{each_passes}
use Rattle.jobfile.specs.Files.{located, reading_at, checked_row, row_at, job_of_sections, job_of_trailer, job_of}
use Rattle.jobfile.specs.Gathered.{with_next, gathered}
use Rattle.jobfile.specs.Jobs.{Contents, contents}
use Rattle.jobfile.specs.Records.{reading_of, record_of, AllHeld}
use Rattle.jobfile.specs.RowPlaces.{byte_places, packed, half_places, places_of, ends_before}
use Rattle.jobfile.specs.Trailers.{is_laid_out, trailer_in, trailer_bytes}
use Rattle.jobfile.specs.JobFaults.{job_fault}
use Rattle.jobfile.specs.Written.{trailer_for, job_bytes}
use Rattle.jobfile.specs.declared.jobs.Job.{Job}
use Rattle.jobfile.proofs.JobFacts.{holdable, job_small}
use Rattle.jobfile.proofs.Laying.{length_joined, length_record}
use Rattle.jobfile.proofs.LowDigits.{length_packed, places_back, length_half}
use Rattle.jobfile.proofs.TrailerBytes.{trailer_read}

-- ---- one piece of a section

module _ {X : Type 0} (f : X → List ℕ) (size : ℕ) (sized : (x : X) → length (f x) ≡ size) where
  piece_of : (xs : List X) (i : ℕ) (d : X) (back : List ℕ) → i < length xs → take size (drop (size * i) (flat_map f xs ++ back)) ≡ f (get_or xs i d)
  piece_of [] i d back h = absurd (omega arith)
  piece_of (x ∷ xs) zero d back h =
      ap (λ (k : ℕ). take size (drop k (flat_map f (x ∷ xs) ++ back))) (mul-zero size)
      ∙ ap (take size) (append_assoc (f x) (flat_map f xs) back)
      ∙ take_at (f x) (flat_map f xs ++ back) size (sized x)
  piece_of (x ∷ xs) (suc i) d back h =
      let m : size * suc i ≡ size + size * i = omega (arith, mul-suc size i) in
      ap₂ (λ (k : ℕ) (ys : List ℕ). take size (drop k ys)) m (append_assoc (f x) (flat_map f xs) back)
      ∙ ap (take size) (sym (drop-drop (size * i) size (f x ++ (flat_map f xs ++ back))) ∙ ap (drop (size * i)) (drop_at (f x) (flat_map f xs ++ back) size (sized x)))
      ∙ piece_of xs i d back (omega arith)

  pub piece_at : (xs : List X) (i : ℕ) (d : X) (front back : List ℕ) (at : ℕ) → length front ≡ at → i < length xs → take size (drop (at + size * i) (front ++ (flat_map f xs ++ back))) ≡ f (get_or xs i d)
  piece_at xs i d front back at l h =
      ap (take size) (sym (drop-drop (size * i) at (front ++ (flat_map f xs ++ back))) ∙ ap (drop (size * i)) (drop_at front (flat_map f xs ++ back) at l))
      ∙ piece_of xs i d back h

-- ---- a whole section

module _ {X E : Type 0} (f : ℕ → Result X E) (xs : List X) (d : X) (each : (i : ℕ) → i < length xs → f i ≡ Ok (get_or xs i d)) where
  gathered_to : (i : ℕ) → i ≤ length xs → gathered f i ≡ Ok (take i xs)
  gathered_to zero h = refl
  gathered_to (suc i) h =
      let l : i < length xs = omega arith in
      ap₂ with_next (gathered_to i (omega arith)) (each i l) ∙ ap Ok (sym (take_more xs i d l) ∙ ap (λ (k : ℕ). take k xs) (add-one i))

  pub gathered_all : gathered f (length xs) ≡ Ok xs
  gathered_all = gathered_to (length xs) (omega arith) ∙ ap Ok (take_all (length xs) xs (omega arith))

-- ---- the file of a job

reading_back : (bs : List ℕ) (at i : ℕ) (x : Reading) → take 9 (drop (at + 9 * i) bs) ≡ record_of x → reading_of (record_of x) ≡ Ok x → reading_at bs at i ≡ Ok x
unfolding reading_at
reading_back bs at i x e h = ap (located i (at + 9 * i)) (ap reading_of e ∙ h)

row_back : (n : ℕ) (bs : List ℕ) (at i : ℕ) (ms : List Bool) → take 16 (drop (at + 16 * i) bs) ≡ packed 16 ms → length ms ≡ 128 → ends_before n ms ≡ true → row_at n bs at i ≡ Ok ms
unfolding row_at
row_back n bs at i ms e l t =
    ap (checked_row n i (at + 16 * i)) (ap byte_places e ∙ places_back 16 ms l)
    ∙ cond-true (ends_before n ms) (Ok ms) (Err record { index = i; byte = at + 16 * i }) t

-- each row has 128 places
abbrev pub AllWide : List (List Bool) → Type 0
AllWide marked = (i : ℕ) → i < length marked → length (get_or marked i []) ≡ 128

laid_out_lem : (c : Contents) → is_laid_out (trailer_for c) (9 * length c.readings + 16 * length c.rows) ≡ true
laid_out_lem c = grind (arith, nat_tests)

pub read_back : (c : Contents) → job_fault c ≡ None → AllHeld c.readings → AllWide c.rows → job_of (job_bytes c) ≡ Ok c
read_back c e held wide =
    let H = holdable c e in
    let s = job_small c H.numbered in
    let n = length c.readings in
    let t = trailer_for c in
    let R = flat_map record_of c.readings in
    let W = flat_map (packed 16) c.rows in
    let T = trailer_bytes t in
    let r : length R ≡ 9 * n = length_joined record_of 9 length_record c.readings in
    let w : length W ≡ 16 * length c.rows = length_joined (packed 16) 16 (length_packed 16) c.rows in
    let rw-len : length (R ++ W) ≡ 9 * n + 16 * length c.rows = length-append R W ∙ ap₂ ◌+◌ r w in
    let small : length (R ++ W) ≤ 4080 = omega (arith, s.short, s.few) in
    let tr : trailer_in (job_bytes c) ≡ Ok t =
    ap trailer_in (sym (append_assoc R W T))
    ∙ trailer_read (R ++ W) t small record { n_small = omega (arith, s.short); readings_small = omega arith; rows_small = omega (arith, s.short); limit_small = omega (arith, s.limited) } H.numbered (ap (is_laid_out t) rw-len ∙ laid_out_lem c) in
    let rs = gathered_all (reading_at (job_bytes c) 0) c.readings Dropout (λ i h. reading_back (job_bytes c) 0 i (get_or c.readings i Dropout) (piece_at record_of 9 length_record c.readings i Dropout [] (W ++ T) 0 refl h) (held i h)) in
    let ms = gathered_all (row_at n (job_bytes c) (9 * n)) c.rows [] (λ i h. row_back n (job_bytes c) (9 * n) i (get_or c.rows i []) (piece_at (packed 16) 16 (length_packed 16) c.rows i [] R T (9 * n) r h) (wide i h) (each_passes (ends_before n) c.rows i [] H.marked h)) in
    ap (job_of_trailer (job_bytes c)) tr ∙ ap₂ (job_of_sections t) rs ms

-- the same of a job in its vectors, and of a buffer that begins with its file
pub written_back : (job : Job) (size : ℕ) (out rest : List ℕ) → job_fault (contents job) ≡ None → AllHeld (contents job).readings → size ≡ length (job_bytes (contents job)) → out ≡ job_bytes (contents job) ++ rest → job_of (take size out) ≡ Ok (contents job)
written_back job size out rest e held l o =
    let hs = vec_items job.rows in
    let wide : AllWide (map places_of hs) = λ i h. ap length (get_or-map places_of hs i unset [] (omega (arith, length-map hs places_of))) ∙ length-append (half_places (get_or hs i unset).first) (half_places (get_or hs i unset).second) ∙ ap₂ ◌+◌ (length_half (get_or hs i unset).first) (length_half (get_or hs i unset).second) in
    ap job_of (ap (take size) o ∙ take_at (job_bytes (contents job)) rest size (sym l)) ∙ read_back (contents job) e held wide
