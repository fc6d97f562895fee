-- What calls on the site alone do to agreement.
use Rattle.std.proofs.Common.{◌≡◌, ℕ, suc, ◌≤◌, List, [], ◌∷◌, ◌++◌, refl, sym, ◌∙◌, subst, ap, IsTrue, arith, All}
use Rattle.std.specs.Prelude.{Option, Some, None, IsSome, IfSome, Contains}
use Rattle.std.proofs.lemmas.Bool.{false≢true}
use Rattle.std.proofs.lemmas.List.Elements.{All-contains}
use Rattle.cacao_site.specs.View.{SiteView, LinkView}
use Rattle.cacao_site.specs.declared.parcel.Parcel.{Parcel}
use Rattle.cacao_site.specs.DiskCalls.{IsLeft, KeepsDisk, OnlyFile}
use Rattle.cacao_site.specs.LinkCalls.{Gains, GainsAll, Loses}
use Rattle.cacao_site.specs.SiteCalls.{Reaches, TakesNone, TakesOnly, TakesSome}
use Rattle.cacao_site.specs.Sound.{IsInTime, IsSound, WasPut as WasPutBy}
use Rattle.flow_laws.specs.Held.{plain}
use Rattle.flow_laws.specs.Images.{up_to, told_list, puts_to}
use Rattle.flow_laws.specs.Since.{AgreedSince}
use Rattle.flow_laws.proofs.Calls.{since_quiet, all_past, same_entries}
use Rattle.flow_world_steps.specs.Agreement.{WasPut}

-- agreement so far, and a link that tells the parcels put and those pending
pub record HasKeptTo (start site : SiteView) : Type 0 where
  pub agreed : AgreedSince plain start site
  pub puts : IsSome site.link.puts
  pub pending : IsSome site.link.pending

pub some_same : {T : Type 0} (a b : Option T) → b ≡ a → IsSome a → IsSome b
some_same {T} a b e is = subst (λ (o : Option T). IsSome o) (sym e) is

pub some_gained : {T : Type 0} (a b : Option (List T)) (x : T) → Gains a x b → IsSome a → IsSome b
some_gained (Some a) (Some b) x gained is = refl
some_gained (Some a) None x gained is = absurd gained
some_gained None b x gained is = absurd (false≢true is)

pub some_more : {T : Type 0} (a b : Option (List T)) (more : List T) → GainsAll a more b → IsSome a → IsSome b
some_more (Some a) (Some b) more gained is = refl
some_more (Some a) None more gained is = absurd gained
some_more None b more gained is = absurd (false≢true is)

pub some_lost : (a b : Option (List Parcel)) (x : Parcel) → Loses a x b → IsSome a → IsSome b
some_lost (Some a) (Some b) x lost is = refl
some_lost (Some a) None x lost is = absurd lost
some_lost None b x lost is = absurd (false≢true is)

-- a call that left the disk, the puts and the lines as they were
pub quiet : (start old new : SiteView) → IsSound old → KeepsDisk old.disk new.disk → new.link.puts ≡ old.link.puts → new.link.said ≡ old.link.said
    → (IsSome old.link.pending → IsSome new.link.pending) → HasKeptTo start old → HasKeptTo start new
quiet start old new sound keeps puts said pending kept = record {
  agreed = since_quiet plain start old new kept.agreed sound keeps.goes_on
      (λ file le beat image from to left. subst IsTrue ((keeps.stays file).images beat image from to) left) puts said;
  puts = some_same old.link.puts new.link.puts puts kept.puts;
  pending = pending kept.pending;
}

pub takes_quiet : (start old new : SiteView) (parcel : Parcel) → IsSound old → TakesOnly old new → TakesSome parcel old new → HasKeptTo start old → HasKeptTo start new
takes_quiet start old new parcel sound only some =
    quiet start old new sound only.disk.disk only.puts only.said (some_lost old.link.pending new.link.pending parcel some.pending)

pub none_quiet : (start old new : SiteView) → IsSound old → TakesOnly old new → TakesNone old new → HasKeptTo start old → HasKeptTo start new
none_quiet start old new sound only none =
    quiet start old new sound only.disk.disk only.puts only.said (some_same old.link.pending new.link.pending none.pending)

pub failed_quiet : (start old new : SiteView) → IsSound old → TakesOnly old new → new.link ≡ old.link → HasKeptTo start old → HasKeptTo start new
failed_quiet start old new sound only same =
    quiet start old new sound only.disk.disk only.puts only.said (some_same old.link.pending new.link.pending (ap (λ (l : LinkView). l.pending) same))

pub reaches_quiet : (start old new : SiteView) (moment answer : ℕ) → IsSound old → Reaches moment answer old new → HasKeptTo start old → HasKeptTo start new
reaches_quiet start old new moment answer sound reaches =
    quiet start old new sound reaches.disk.disk reaches.puts reaches.said (some_more old.link.pending new.link.pending reaches.pending.0 reaches.pending.1)

-- ---- a parcel that is taken was put

in_middle : (front back : List Parcel) (x : Parcel) → Contains (front ++ x ∷ back) x
in_middle [] back x = (0, omega arith, refl)
in_middle (y ∷ front) back x = let rest = in_middle front back x in (suc rest.0, omega (arith, rest.1), rest.2)

was_pending : (pending left : Option (List Parcel)) (puts : Option (List (ℕ × Parcel))) (beat : ℕ) (x : Parcel) → IsSome pending → IsSome puts
    → IfSome pending (λ pending. IfSome puts (λ puts. All (WasPutBy puts beat) pending)) → Loses pending x left
    → (at : ℕ) × Contains (told_list puts) (at, x)
was_pending (Some l) (Some left) (Some puts) beat x is told sound lost =
    let has : Contains l x = subst (λ (l : List Parcel). Contains l x) (sym lost.was) (in_middle lost.front lost.back x) in
    let put : WasPutBy puts beat x = All-contains (WasPutBy puts beat) l x sound has in
    (put.0, put.2)
was_pending (Some l) None puts beat x is told sound lost = absurd lost
was_pending (Some l) (Some left) None beat x is told sound lost = absurd (false≢true told)
was_pending None left puts beat x is told sound lost = absurd (false≢true is)

past_puts : (beat : ℕ) (o : Option (List (ℕ × Parcel))) → IfSome o (λ l. All (λ (e : ℕ × Parcel). e.0 ≤ beat) l) → up_to beat (told_list o) ≡ told_list o
past_puts beat None past = refl
past_puts beat (Some l) past = all_past beat l past

pub taken_was_put : (old new : SiteView) (parcel : Parcel) → IsSound old → IsSome old.link.puts → IsSome old.link.pending → TakesOnly old new → TakesSome parcel old new
    → WasPut new parcel
taken_was_put old new parcel sound puts pending only some =
    let put = was_pending old.link.pending new.link.pending old.link.puts old.disk.beat parcel pending puts sound.pending some.pending in
    let here : puts_to new new.disk.beat ≡ told_list old.link.puts =
    same_entries old.disk.beat new.disk.beat old.link.puts new.link.puts only.puts only.disk.disk.goes_on.later sound.puts.past
    ∙ past_puts old.disk.beat old.link.puts sound.puts.past in
    record { at = put.0; has = subst (λ (l : List (ℕ × Parcel)). Contains l (put.0, parcel)) (sym here) put.1 }

-- ---- a site between two calls is sound

all_by : {T : Type 0} (n m : ℕ) (o : Option (List (ℕ × T))) → n ≤ m → IfSome o (λ l. All (λ (e : ℕ × T). e.0 ≤ n) l) → IfSome o (λ l. All (λ (e : ℕ × T). e.0 ≤ m) l)
all_by n m None le past = tt
all_by n m (Some l) le past = λ k d lt. omega (arith, le, past k d lt)

in_time_later : {T : Type 0} (n m : ℕ) (o : Option (List (ℕ × T))) → n ≤ m → IsInTime n o → IsInTime m o
in_time_later n m o le is = record { past = all_by n m o le is.past; in_order = is.in_order }

put_by : (n m : ℕ) (pending : Option (List Parcel)) (puts : Option (List (ℕ × Parcel))) → n ≤ m
    → IfSome pending (λ l. IfSome puts (λ p. All (WasPutBy p n) l)) → IfSome pending (λ l. IfSome puts (λ p. All (WasPutBy p m) l))
put_by n m None puts le is = tt
put_by n m (Some l) None le is = tt
put_by n m (Some l) (Some p) le is = λ k d lt. let put = is k d lt in (put.0, omega (arith, put.1, le), put.2)

-- the site behind a call on a file and before one that leaves the disk
pub sound_between : (old mid new : SiteView) (file : ℕ) (P : List ℕ → Type 0) → IsSound old → IsSound new → OnlyFile file old mid P → KeepsDisk mid.disk new.disk → IsSound mid
sound_between old mid new file P before after only keeps =
    let later : old.disk.beat ≤ mid.disk.beat = only.each.goes_on.later in
    let link = sym only.rest.link in
    record {
      reads = λ f told.
          let there : IsLeft new.disk f new.disk.beat (new.disk.reads f) = after.reads f (subst IsTrue (sym keeps.goes_on.told) told) in
          let here : IsLeft mid.disk f mid.disk.beat (new.disk.reads f) = subst IsTrue ((keeps.stays f).images new.disk.beat (new.disk.reads f) keeps.goes_on.later (omega arith)) there in
          subst (λ (l : List ℕ). IsLeft mid.disk f mid.disk.beat l) (keeps.stays f).reads here;
      images = λ f beat told le.
          let there = after.images f beat (subst IsTrue (sym keeps.goes_on.told) told) (omega (arith, le, keeps.goes_on.later)) in
          (there.0, subst IsTrue (keeps.goes_on.past f beat there.0 le) there.1);
      puts = subst (λ (l : LinkView). IsInTime mid.disk.beat l.puts) link (in_time_later old.disk.beat mid.disk.beat old.link.puts later before.puts);
      taken = subst (λ (l : LinkView). IsInTime mid.disk.beat l.taken) link (in_time_later old.disk.beat mid.disk.beat old.link.taken later before.taken);
      said = subst (λ (l : LinkView). IsInTime mid.disk.beat l.said) link (in_time_later old.disk.beat mid.disk.beat old.link.said later before.said);
      pending = subst (λ (l : LinkView). IfSome l.pending (λ pending. IfSome l.puts (λ puts. All (WasPutBy puts mid.disk.beat) pending))) link
          (put_by old.disk.beat mid.disk.beat old.link.pending old.link.puts later before.pending);
      was_put = subst (λ (l : LinkView). IfSome l.pending (λ pending. IfSome l.taken (λ taken. IfSome l.puts (λ puts. All (λ (e : ℕ × Parcel). WasPutBy puts e.0 e.1) taken)))) link before.was_put;
    }
