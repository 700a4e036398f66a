-- A file in the writer's layout is written as the same bytes again.
use Rattle.std.proofs.Common.{◌≡◌, ℕ, zero, suc, ◌+◌, ◌*◌, ◌<◌, ◌≤◌, Bool, true, false, cond, List, [], ◌∷◌, ◌++◌, length, get_or, take, drop, IfOk, Ok, Err, Result, sym, refl, ap, ◌∙◌, subst, ap₂, mul-zero, mul-suc, arith}
use Rattle.std.proofs.lemmas.List.{append-nil, take-append-drop, drop-drop, length-drop, length_push, get_or-drop}
use Rattle.std.proofs.lemmas.Result.{IfOk-at_ok}
use Rattle.std.proofs.lemmas.Bool.{and_parts, eqb-true, leb-true}
use Rattle.std.specs.List.{flat_map}
use Rattle.std.proofs.lemmas.Grind.{flat_map-append}
use Rattle.frames.specs.declared.readings.Reading.{Reading}
use Rattle.jobfile.specs.Files.{located, reading_at, row_at, readings_in, rows_in, job_of_sections, job_of_trailer, job_of, Answers}
use Rattle.jobfile.specs.Gathered.{with_next, gathered}
use Rattle.jobfile.specs.Jobs.{Contents, contents}
use Rattle.jobfile.specs.Records.{reading_of, record_of}
use Rattle.jobfile.specs.RowPlaces.{byte_places, packed, ends_before}
use Rattle.jobfile.specs.Trailers.{trailer_start, pair_at, kind_of, trailer_at, trailer_in, trailer_bytes}
use Rattle.jobfile.specs.Written.{trailer_for, job_bytes, InWrittenLayout}
use Rattle.jobfile.specs.declared.faults.BadReading.{BadReading}
use Rattle.jobfile.specs.declared.faults.BadRow.{BadRow}
use Rattle.jobfile.specs.declared.faults.FileFault.{FileFault}
use Rattle.jobfile.specs.declared.jobs.Job.{Job}
use Rattle.jobfile.specs.declared.records.ReadingFault.{ReadingFault}
use Rattle.jobfile.specs.declared.trailers.Trailer.{Trailer}
use Rattle.jobfile.proofs.Backs.{record_back}
use Rattle.jobfile.proofs.LowDigits.{packed_back}
use Rattle.jobfile.proofs.RowBytes.{part_fits, part_length, part_append}
use Rattle.jobfile.proofs.TrailerBytes.{trailer_past, kind_past, mark_past, bytes_back}
use Rattle.jobfile.proofs.TrailerFacts.{good_trailer}

-- ---- a section, piece by piece

ok_parts : {X E : Type 0} (a : Result (List X) E) (b : Result X E) (xs : List X) → with_next a b ≡ Ok xs → (ys : List X) × (y : X) × (a ≡ Ok ys) × (b ≡ Ok y) × (xs ≡ ys ++ y ∷ [])
ok_parts (Err e) b xs h = absurd (cc)
ok_parts (Ok ys) (Err e) xs h = absurd (cc)
ok_parts (Ok ys) (Ok y) xs h = (ys, y, refl, refl, cc)

module _ {X E : Type 0} (f : ℕ → Result X E) (g : X → List ℕ) (size at : ℕ) (bs : List ℕ) (back : (k : ℕ) (x : X) → at + size * suc k ≤ length bs → f k ≡ Ok x → g x ≡ take size (drop (at + size * k) bs)) where
  pub section_back : (i : ℕ) (xs : List X) → at + size * i ≤ length bs → gathered f i ≡ Ok xs → (flat_map g xs ≡ take (size * i) (drop at bs)) × (length xs ≡ i)
  section_back zero xs l e =
      let n : xs ≡ [] = cc in
      (ap (flat_map g) n ∙ ap (λ (k : ℕ). take k (drop at bs)) (sym (mul-zero size)), ap length n)
  section_back (suc i) xs l e =
      let p = ok_parts (gathered f i) (f i) xs e in
      let m : size * suc i ≡ size * i + size = mul-suc size i in
      let ih = section_back i p.0 (omega arith) p.2 in (
        ap (flat_map g) p.4
            ∙ flat_map-append g p.0 (p.1 ∷ [])
            ∙ ap₂ (λ (us vs : List ℕ). us ++ vs) ih.0 (append-nil (g p.1) ∙ back i p.1 l p.3)
            ∙ sym (part_append (size * i) size at bs)
            ∙ ap (λ (k : ℕ). take k (drop at bs)) (sym m),
        ap length p.4 ∙ length_push p.0 p.1 ∙ (let s : length p.0 + 1 ≡ suc i = omega (arith, ih.1) in s),
      )

module _ (bs : List ℕ) (fits : (i : ℕ) → get_or bs i 0 < 256) where
  not_located : (k p : ℕ) (r : Result Reading ReadingFault) (x : Reading) → located k p r ≡ Ok x → r ≡ Ok x
  not_located k p (Ok y) x e = cc
  not_located k p (Err d) x e = absurd (cc)

  reading_bytes : (at k : ℕ) (x : Reading) → at + 9 * suc k ≤ length bs → reading_at bs at k ≡ Ok x → record_of x ≡ take 9 (drop (at + 9 * k) bs)
  unfolding reading_at
  reading_bytes at k x l e =
      let part = take 9 (drop (at + 9 * k) bs) in
      IfOk-at_ok (λ y. record_of y ≡ part) (not_located k (at + 9 * k) (reading_of part) x e) (record_back part (reading_of part) refl (part_length 9 (at + 9 * k) bs (omega arith)) (part_fits 9 (at + 9 * k) bs fits))

  not_bad : (n k p : ℕ) (b : Bool) (ms xs : List Bool) → ◌≡◌ {A = Result (List Bool) BadRow} (cond b (Ok ms) (Err record { index = k; byte = p })) (Ok xs) → xs ≡ ms
  not_bad n k p true ms xs e = cc
  not_bad n k p false ms xs e = absurd (cc)

  row_bytes : (n at k : ℕ) (ms : List Bool) → at + 16 * suc k ≤ length bs → row_at n bs at k ≡ Ok ms → packed 16 ms ≡ take 16 (drop (at + 16 * k) bs)
  unfolding row_at
  row_bytes n at k ms l e =
      let part = take 16 (drop (at + 16 * k) bs) in
      let len : length part ≡ 16 = part_length 16 (at + 16 * k) bs (omega arith) in
      ap (packed 16) (not_bad n k (at + 16 * k) (ends_before n (byte_places part)) (byte_places part) ms e)
      ∙ ap (λ (j : ℕ). packed j (byte_places part)) (sym len)
      ∙ packed_back part (part_fits 16 (at + 16 * k) bs fits)

  -- ---- what a file's job says of the file

  trailer_part : (r : Result Trailer FileFault) (c : Contents) → job_of_trailer bs r ≡ Ok c → (t : Trailer) × (Ok t ≡ r) × (job_of_sections t (readings_in bs t) (rows_in bs t) ≡ Ok c)
  trailer_part (Ok t) c e = (t, refl, e)
  trailer_part (Err d) c e = absurd (cc)

  section_parts : (t : Trailer) (a : Result (List Reading) BadReading) (b : Result (List (List Bool)) BadRow) (c : Contents) → job_of_sections t a b ≡ Ok c → (a ≡ Ok c.readings) × (b ≡ Ok c.rows) × (c ≡ record { readings = c.readings; rows = c.rows; guessed = t.guessed; limit = t.limit; kind = t.kind })
  section_parts t (Err d) b c e = absurd (cc)
  section_parts t (Ok rs) (Err d) c e = absurd (cc)
  section_parts t (Ok rs) (Ok ms) c e =
      let C : Contents = record { readings = rs; rows = ms; guessed = t.guessed; limit = t.limit; kind = t.kind } in
      let q : C ≡ c = cc in
      (ap (λ (x : Contents). Ok x.readings) q, ap (λ (x : Contents). Ok x.rows) q, sym q ∙ ap (λ (x : Contents). record { readings = x.readings; rows = x.rows; guessed = t.guessed; limit = t.limit; kind = t.kind }) q)

  same_trailer : (t : Trailer) (n k a b : ℕ) → n ≡ t.n → k ≡ t.rows → a ≡ t.readings_at → b ≡ t.rows_at → ◌≡◌ {A = Trailer} record { n = n; rows = k; guessed = t.guessed; readings_at = a; rows_at = b; limit = t.limit; kind = t.kind } t
  same_trailer t n k a b e₁ e₂ e₃ e₄ = rw (e₁, e₂, e₃, e₄)

  trailer_bytes_lem : (t : Trailer) → Ok t ≡ trailer_in bs → trailer_bytes t ≡ drop (trailer_start bs) bs
  trailer_bytes_lem t e =
      let G = good_trailer bs t e in
      let at = trailer_start bs in
      let f = and_parts _ _ G.formed in
      let l : 16 ≤ length bs = leb-true 16 (length bs) (and_parts _ _ f.0).0 in
      let m : get_or bs (at + 15) 0 ≡ 90 = eqb-true (get_or bs (at + 15) 0) 90 f.1 in
      ap trailer_bytes (G.is ∙ trailer_past bs at t.kind)
      ∙ bytes_back (drop at bs) t.kind (omega (arith, length-drop at bs)) (λ i. subst (λ (x : ℕ). x < 256) (sym (get_or-drop at bs i 0)) (fits (at + i))) (ap kind_of (sym (kind_past bs at)) ∙ G.weighs) (sym (mark_past bs at) ∙ m)

  pub rewritten : (c : Contents) → job_of bs ≡ Ok c → InWrittenLayout bs → job_bytes c ≡ bs
  rewritten c e layout =
      let p = trailer_part (trailer_in bs) c e in
      let t = p.0 in
      let q = section_parts t (readings_in bs t) (rows_in bs t) c p.2 in
      let is : t ≡ trailer_at bs (trailer_start bs) t.kind = (good_trailer bs t p.1).is in
      let n-is : t.n ≡ pair_at bs (trailer_start bs) = ap (λ (u : Trailer). u.n) is in
      let k-is : t.rows ≡ get_or bs (trailer_start bs + 2) 0 = ap (λ (u : Trailer). u.rows) is in
      let ra : t.readings_at ≡ 0 = ap (λ (u : Trailer). u.readings_at) is ∙ layout.0 in
      let wa : t.rows_at ≡ 9 * t.n = ap (λ (u : Trailer). u.rows_at) is ∙ layout.1 ∙ ap (λ (x : ℕ). 9 * x) (sym n-is) in
      let st : trailer_start bs ≡ 9 * t.n + 16 * t.rows = layout.2 ∙ ap₂ (λ (x y : ℕ). 9 * x + 16 * y) (sym n-is) (sym k-is) in
      let r = section_back (reading_at bs t.readings_at) record_of 9 t.readings_at bs (reading_bytes t.readings_at) t.n c.readings (omega arith) q.0 in
      let w = section_back (row_at t.n bs t.rows_at) (packed 16) 16 t.rows_at bs (row_bytes t.n t.rows_at) t.rows c.rows (omega arith) q.1 in
      let tr : trailer_for c ≡ t = ap trailer_for q.2 ∙ same_trailer t (length c.readings) (length c.rows) 0 (9 * length c.readings) r.1 w.1 (sym ra) (ap (λ (x : ℕ). 9 * x) r.1 ∙ sym wa) in
      ap₂ (λ (us vs : List ℕ). us ++ (vs ++ trailer_bytes (trailer_for c))) (r.0 ∙ ap (λ (k : ℕ). take (9 * t.n) (drop k bs)) ra) (w.0 ∙ ap (λ (k : ℕ). take (16 * t.rows) (drop k bs)) wa)
      ∙ ap (λ (vs : List ℕ). take (9 * t.n) bs ++ (take (16 * t.rows) (drop (9 * t.n) bs) ++ vs)) (ap trailer_bytes tr ∙ trailer_bytes_lem t p.1 ∙ ap (λ (k : ℕ). drop k bs) st ∙ sym (drop-drop (16 * t.rows) (9 * t.n) bs))
      ∙ ap (λ (vs : List ℕ). take (9 * t.n) bs ++ vs) (take-append-drop (16 * t.rows) (drop (9 * t.n) bs))
      ∙ take-append-drop (9 * t.n) bs

-- the same of what reading answers
pub answers_back : (bs : List ℕ) → ((i : ℕ) → get_or bs i 0 < 256) → (r : Result Job FileFault) → Answers contents r (job_of bs) → IfOk r (λ job. InWrittenLayout bs → job_bytes (contents job) ≡ bs)
answers_back bs fits (Ok job) e = rewritten bs fits (contents job) (sym e)
answers_back bs fits (Err d) e = tt
