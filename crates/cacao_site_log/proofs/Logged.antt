-- What one device call more does to the view of a disk in memory.
use Rattle.std.proofs.Common.{◌≡◌, ◌≢◌, inl, inr, ℕ, ◌+◌, ◌-◌, ◌<◌, ◌≤◌, Bool, true, false, IsTrue, ◌==◌, if◌then◌else◌, List, [], ◌∷◌, ◌++◌, length, take, refl, sym, ◌∙◌, ap, subst, arith, length-append, slice_index_or}
use Rattle.std.proofs.lemmas.List.{take-append-le, take_all}
use Rattle.std.proofs.lemmas.Bool.{cases_lt, ne_eqb, eq-eqb}
use Rattle.cacao_site.specs.Counts.{last_count, count_after, next_count}
use Rattle.cacao_site.specs.View.{DiskView}
use Rattle.cacao_site.specs.DiskCalls.{GoesOn, StaysAt, CallsOn, KeepsDisk, Follows, Spreads, Same, Torn, Written, IsDurable}
use Rattle.cacao_site_log.specs.Replay.{Call, wrote, tried, flushed, FileState, at_rest, touch, spliced, after, after_all, file_after, disk_view, is_image}
use Rattle.cacao_site_log.specs.Images.{IsGood, image-parts, image-from, torn-from_image, image-from_torn, rest-image, spliced-written, good-file}

pub after_all-push : (file : ℕ) (state : FileState) (log : List Call) (call : Call) → after_all file state (log ++ call ∷ []) ≡ after file (after_all file state log) call
unfolding after_all
after_all-push file state [] call = refl
after_all-push file state (first ∷ log) call = after_all-push file (after file state first) log call

-- the call is on this file, or on none
abbrev pub IsOn : ℕ → Call → Type 0
IsOn file call = (other : ℕ) → other ≢ file → (state : FileState) → after other state call ≡ state

choose_else : (b : Bool) (s t : FileState) → b ≡ false → (if b then s else t) ≡ t
choose_else b s t e = ap (λ x. if x then s else t) e

choose_then : (b : Bool) (s t : FileState) → b ≡ true → (if b then s else t) ≡ s
choose_then b s t e = ap (λ x. if x then s else t) e

pub on-wrote : (file at : ℕ) (bytes : List ℕ) → IsOn file (wrote file at bytes)
on-wrote file at bytes other ne state = choose_else (file == other) _ _ (ne_eqb file other (λ e. ne (sym e)))

pub on-tried : (file at size : ℕ) → IsOn file (tried file at size)
on-tried file at size other ne state = choose_else (file == other) _ _ (ne_eqb file other (λ e. ne (sym e)))

pub on-flushed : (file : ℕ) → IsOn file (flushed file)
on-flushed file other ne state = choose_else (file == other) _ _ (ne_eqb file other (λ e. ne (sym e)))

pub after-wrote : (file at : ℕ) (bytes : List ℕ) (state : FileState) → after file state (wrote file at bytes) ≡ touch at (length bytes) (spliced at bytes state.reads) state
after-wrote file at bytes state = choose_then (file == file) _ _ (eq-eqb file file refl)

pub after-tried : (file at size : ℕ) (state : FileState) → after file state (tried file at size) ≡ touch at size state.reads state
after-tried file at size state = choose_then (file == file) _ _ (eq-eqb file file refl)

pub after-flushed : (file : ℕ) (state : FileState) → after file state (flushed file) ≡ at_rest state.reads
after-flushed file state = choose_then (file == file) _ _ (eq-eqb file file refl)

-- a call that the record keeps
module _ (starts : List (List ℕ)) (log log' : List Call) (call : Call) (start made made' calls calls' written written' faults faults' : ℕ) (is : log' ≡ log ++ call ∷ []) (at_end : length log ≡ made) (fits : start + made < last_count) (counted : made' ≡ next_count made) where
  before : DiskView
  before = disk_view starts log start made calls written faults

  later : DiskView
  later = disk_view starts log' start made' calls' written' faults'

  state_after : (file : ℕ) → file_after starts log' file ≡ after file (file_after starts log file) call
  state_after file = ap (λ (l : List Call). file_after starts l file) is ∙ after_all-push file (at_rest (slice_index_or starts file [])) log call

  left_past : (file beat : ℕ) (image : List ℕ) → beat ≤ start + made → later.left file beat image ≡ before.left file beat image
  unfolding before later
  left_past file beat image le =
      ap (λ (l : List Call). is_image (file_after starts (take (beat - start) l) file) image) is
      ∙ ap (λ (l : List Call). is_image (file_after starts l file) image) (take-append-le (beat - start) log (call ∷ []) (omega arith))

  left_then : (file beat : ℕ) (image : List ℕ) → start + made ≤ beat → before.left file beat image ≡ is_image (file_after starts log file) image
  unfolding before
  left_then file beat image le = ap (λ (l : List Call). is_image (file_after starts l file) image) (take_all (beat - start) log (omega arith))

  left_now : (file beat : ℕ) (image : List ℕ) → start + made < beat → later.left file beat image ≡ is_image (after file (file_after starts log file) call) image
  unfolding later
  left_now file beat image lt =
      ap (λ (l : List Call). is_image (file_after starts l file) image) (take_all (beat - start) log' (omega (arith, ap length is, length-append log (call ∷ []))))
      ∙ ap (λ (s : FileState). is_image s image) (state_after file)

  logged_on : calls ≤ calls' → written ≤ written' → faults ≤ faults' → GoesOn (disk_view starts log start made calls written faults) (disk_view starts log' start made' calls' written' faults')
  unfolding before later
  logged_on up_calls more up = record {
    told = refl;
    later = omega arith;
    past = λ file beat image le. left_past file beat image (omega (arith, le));
    calls = up_calls;
    written = more;
    faults = up;
    label = refl;
  }

  pub logged_stays : (file : ℕ) → ((state : FileState) → after file state call ≡ state) → StaysAt (disk_view starts log start made calls written faults) (disk_view starts log' start made' calls' written' faults') file
  unfolding before later
  logged_stays file same = record {
    reads = ap (λ (s : FileState). s.reads) (state_after file ∙ same (file_after starts log file));
    images = λ beat image from to. elim (cases_lt (start + made) beat) [
      | inl now ↦
          left_now file beat image now ∙ ap (λ (s : FileState). is_image s image) (same (file_after starts log file))
          ∙ sym (left_then file (count_after start made) image (omega arith))
      | inr past ↦
          left_past file beat image past ∙ left_then file beat image (omega (arith, from)) ∙ sym (left_then file (count_after start made) image (omega arith))
    ];
  }

  -- a call of `say`
  pub logged_keeps : ((file : ℕ) (state : FileState) → after file state call ≡ state) → calls' ≡ calls → written' ≡ written → faults' ≡ faults → KeepsDisk (disk_view starts log start made calls written faults) (disk_view starts log' start made' calls' written' faults')
  logged_keeps same calls_stay written_stays faults_stay = record {
    goes_on = logged_on (omega (arith, calls_stay)) (omega (arith, written_stays)) (omega (arith, faults_stay));
    stays = λ file. logged_stays file (same file);
    written = written_stays;
    faults = faults_stay;
  }

  pub logged_call : (file bytes : ℕ) → IsOn file call → calls ≤ last_count → calls' ≡ next_count calls → written ≤ last_count → written' ≡ count_after written bytes → faults ≤ faults' → CallsOn file bytes (disk_view starts log start made calls written faults) (disk_view starts log' start made' calls' written' faults')
  logged_call file bytes on few called low handed up = record {
    goes_on = logged_on (omega arith) (omega arith) up;
    takes_beat = omega arith;
    others = λ other ne. logged_stays other (on other ne);
    calls = omega arith;
    written = omega arith;
    counted = λ told. called;
    handed = λ told. handed;
  }

  pub logged_follows : (file : ℕ) (step : List ℕ → List ℕ → Type 0) → ((image : List ℕ) → IsTrue (is_image (after file (file_after starts log file) call) image) → (was : List ℕ) × IsTrue (is_image (file_after starts log file) was) × step was image)
      → Follows file step (disk_view starts log start made calls written faults) (disk_view starts log' start made' calls' written' faults')
  unfolding before later
  logged_follows file step from beat image past to left =
      let was = from image (subst IsTrue (left_now file beat image (omega (arith, past))) left) in
      (was.0, subst IsTrue (sym (left_then file (count_after start made) was.0 (omega arith))) was.1, was.2)

  pub logged_spreads : (file : ℕ) (step : List ℕ → List ℕ → Type 0) → ((was image : List ℕ) → IsTrue (is_image (file_after starts log file) was) → step was image → IsTrue (is_image (after file (file_after starts log file) call) image))
      → Spreads file step (disk_view starts log start made calls written faults) (disk_view starts log' start made' calls' written' faults')
  unfolding before later
  logged_spreads file step to told was image left steps =
      subst IsTrue (sym (left_now file (count_after start made') image (omega arith)))
      (to was image (subst IsTrue (left_then file (count_after start made) was (omega arith)) left) steps)

  pub logged_reads : (file : ℕ) → (file_after starts log' file).reads ≡ (after file (file_after starts log file) call).reads
  logged_reads file = ap (λ (s : FileState). s.reads) (state_after file)

  pub logged_durable : (file : ℕ) (bytes : List ℕ) → after file (file_after starts log file) call ≡ at_rest bytes → IsDurable file (disk_view starts log' start made' calls' written' faults')
  unfolding before later
  logged_durable file bytes rests image left =
      rest-image bytes image (subst (λ s. IsTrue (is_image s image)) rests (subst IsTrue (left_now file (count_after start made') image (omega arith)) left))
      ∙ sym (logged_reads file ∙ ap (λ (s : FileState). s.reads) rests)

-- a write, done or not, as the record keeps it
torn_images : (at size : ℕ) (reads : List ℕ) (state : FileState) → IsGood state → (image : List ℕ) → IsTrue (is_image (touch at size reads state) image) → (was : List ℕ) × IsTrue (is_image state was) × Torn at size was image
torn_images at size reads state good image left =
    let from = torn-from_image state good.room at size reads image (image-parts (touch at size reads state) image left) in
    (from.0, image-from state from.0 from.1, from.2)

spread_images : (at size : ℕ) (reads : List ℕ) (state : FileState) → (was image : List ℕ) → IsTrue (is_image state was) → Torn at size was image → IsTrue (is_image (touch at size reads state) image)
spread_images at size reads state was image left torn = image-from (touch at size reads state) image (image-from_torn state at size reads was image (image-parts state was left) torn)

module _ (starts : List (List ℕ)) (log log' : List Call) (start made made' calls calls' written written' faults faults' : ℕ) (at_end : length log ≡ made) (fits : start + made < last_count) (counted : made' ≡ next_count made) where
  pub wrote_follows : (file at : ℕ) (bytes : List ℕ) → log' ≡ log ++ wrote file at bytes ∷ [] → Follows file (Torn at (length bytes)) (disk_view starts log start made calls written faults) (disk_view starts log' start made' calls' written' faults')
  wrote_follows file at bytes is =
      logged_follows starts log log' (wrote file at bytes) start made made' calls calls' written written' faults faults' is at_end fits counted file (Torn at (length bytes)) (λ image left.
      torn_images at (length bytes) (spliced at bytes (file_after starts log file).reads) (file_after starts log file) (good-file starts log file) image (subst (λ s. IsTrue (is_image s image)) (after-wrote file at bytes (file_after starts log file)) left))

  pub wrote_spreads : (file at : ℕ) (bytes : List ℕ) → log' ≡ log ++ wrote file at bytes ∷ [] → Spreads file (Torn at (length bytes)) (disk_view starts log start made calls written faults) (disk_view starts log' start made' calls' written' faults')
  wrote_spreads file at bytes is =
      logged_spreads starts log log' (wrote file at bytes) start made made' calls calls' written written' faults faults' is at_end fits counted file (Torn at (length bytes)) (λ was image left torn.
      subst (λ s. IsTrue (is_image s image)) (sym (after-wrote file at bytes (file_after starts log file))) (spread_images at (length bytes) (spliced at bytes (file_after starts log file).reads) (file_after starts log file) was image left torn))

  pub wrote_reads : (file at : ℕ) (bytes : List ℕ) → log' ≡ log ++ wrote file at bytes ∷ [] → Written at bytes (file_after starts log file).reads (file_after starts log' file).reads
  wrote_reads file at bytes is =
      subst (λ (l : List ℕ). Written at bytes (file_after starts log file).reads l)
      (sym (logged_reads starts log log' (wrote file at bytes) start made made' calls calls' written written' faults faults' is at_end fits counted file ∙ ap (λ (s : FileState). s.reads) (after-wrote file at bytes (file_after starts log file))))
      (spliced-written at bytes (file_after starts log file).reads)

  pub tried_follows : (file at size : ℕ) → log' ≡ log ++ tried file at size ∷ [] → Follows file (Torn at size) (disk_view starts log start made calls written faults) (disk_view starts log' start made' calls' written' faults')
  tried_follows file at size is =
      logged_follows starts log log' (tried file at size) start made made' calls calls' written written' faults faults' is at_end fits counted file (Torn at size) (λ image left.
      torn_images at size (file_after starts log file).reads (file_after starts log file) (good-file starts log file) image (subst (λ s. IsTrue (is_image s image)) (after-tried file at size (file_after starts log file)) left))

  pub tried_spreads : (file at size : ℕ) → log' ≡ log ++ tried file at size ∷ [] → Spreads file (Torn at size) (disk_view starts log start made calls written faults) (disk_view starts log' start made' calls' written' faults')
  tried_spreads file at size is =
      logged_spreads starts log log' (tried file at size) start made made' calls calls' written written' faults faults' is at_end fits counted file (Torn at size) (λ was image left torn.
      subst (λ s. IsTrue (is_image s image)) (sym (after-tried file at size (file_after starts log file))) (spread_images at size (file_after starts log file).reads (file_after starts log file) was image left torn))

  pub tried_reads : (file at size : ℕ) → log' ≡ log ++ tried file at size ∷ [] → (file_after starts log' file).reads ≡ (file_after starts log file).reads
  tried_reads file at size is =
      logged_reads starts log log' (tried file at size) start made made' calls calls' written written' faults faults' is at_end fits counted file ∙ ap (λ (s : FileState). s.reads) (after-tried file at size (file_after starts log file))

  pub flushed_follows : (file : ℕ) → log' ≡ log ++ flushed file ∷ [] → Follows file Same (disk_view starts log start made calls written faults) (disk_view starts log' start made' calls' written' faults')
  flushed_follows file is =
      let state = file_after starts log file in
      logged_follows starts log log' (flushed file) start made made' calls calls' written written' faults faults' is at_end fits counted file Same (λ image left.
      (state.reads, image-from state state.reads (good-file starts log file).image, rest-image state.reads image (subst (λ s. IsTrue (is_image s image)) (after-flushed file state) left)))

  pub flushed_reads : (file : ℕ) → log' ≡ log ++ flushed file ∷ [] → (file_after starts log' file).reads ≡ (file_after starts log file).reads
  flushed_reads file is =
      logged_reads starts log log' (flushed file) start made made' calls calls' written written' faults faults' is at_end fits counted file ∙ ap (λ (s : FileState). s.reads) (after-flushed file (file_after starts log file))

  pub flushed_durable : (file : ℕ) → log' ≡ log ++ flushed file ∷ [] → IsDurable file (disk_view starts log' start made' calls' written' faults')
  flushed_durable file is =
      logged_durable starts log log' (flushed file) start made made' calls calls' written written' faults faults' is at_end fits counted file (file_after starts log file).reads (after-flushed file (file_after starts log file))

-- a call past the last that the record keeps
module _ (starts : List (List ℕ)) (log : List Call) (start made made' calls calls' written written' faults faults' : ℕ) (whole : start + length log ≤ count_after start made) (low : made ≤ last_count) (counted : made' ≡ next_count made) where
  left_whole : (beat : ℕ) → start + length log ≤ beat → (file : ℕ) (image : List ℕ) → is_image (file_after starts (take (beat - start) log) file) image ≡ is_image (file_after starts log file) image
  left_whole beat le file image = ap (λ (l : List Call). is_image (file_after starts l file) image) (take_all (beat - start) log (omega (arith, le)))

  pub refused_stays : (file : ℕ) → StaysAt (disk_view starts log start made calls written faults) (disk_view starts log start made' calls' written' faults') file
  refused_stays file = record {
    reads = refl;
    images = λ beat image from to. left_whole beat (omega (arith, from)) file image ∙ sym (left_whole (count_after start made) (omega arith) file image);
  }

  -- a call of `say`
  pub refused_keeps : calls' ≡ calls → written' ≡ written → faults' ≡ faults → KeepsDisk (disk_view starts log start made calls written faults) (disk_view starts log start made' calls' written' faults')
  refused_keeps calls_stay written_stays faults_stay = record {
    goes_on = record { told = refl; later = omega arith; past = λ other beat image le. refl; calls = omega (arith, calls_stay); written = omega (arith, written_stays); faults = omega (arith, faults_stay); label = refl };
    stays = refused_stays;
    written = written_stays;
    faults = faults_stay;
  }

  pub refused_call : (file bytes : ℕ) → calls ≤ last_count → calls' ≡ next_count calls → written ≤ last_count → written' ≡ count_after written bytes → faults ≤ faults' → CallsOn file bytes (disk_view starts log start made calls written faults) (disk_view starts log start made' calls' written' faults')
  refused_call file bytes few called small handed up = record {
    goes_on = record { told = refl; later = omega arith; past = λ other beat image le. refl; calls = omega arith; written = omega arith; faults = up; label = refl };
    takes_beat = omega arith;
    others = λ other ne. refused_stays other;
    calls = omega arith;
    written = omega arith;
    counted = λ told. called;
    handed = λ told. handed;
  }
