-- A site that is lent without its link: what its label tells, and what calls are on it.
use Rattle.std.proofs.Common.{◌≡◌, inr, ◌∙◌, refl, sym, ap, subst, arith, ℕ, ◌≤◌, Bool, true, false, List, [], ◌∷◌, ◌++◌, length, take, drop, Option, Some, None}
use Rattle.std.specs.Prelude.{option_map}
use Rattle.std.proofs.Math.Logic.{∥∥₁_map}
use Rattle.std.proofs.lemmas.List.{append_assoc, append-nil, drop_at, take_at}
use Rattle.cacao_site.specs.Counts.{last_count, next_count}
use Rattle.cacao_site.specs.DiskCalls.{CallsOn, SameRest}
use Rattle.cacao_site.specs.LinkCalls.{GainsAll, Keeps}
use Rattle.cacao_site.specs.SayCalls.{SaysOnly}
use Rattle.cacao_site.specs.SiteCalls.{Puts, Reaches}
use Rattle.cacao_site.specs.View.{CountsView, LinkView, SiteView}
use Rattle.cacao_site.specs.declared.parcel.Parcel.{Parcel}
use Rattle.oc2_wire.proofs.Retell.{calls_as, reaches_as, rest_as, says_as, takes_none_at_all}
use Rattle.oc2_wire_site.specs.Marks.{coded}
use Rattle.cacao_cli_peers.specs.SitesBeneath.{LeavesLink, beneath, beneath_label, bit_of, coded_entries, coded_link, coded_parcel, coded_parcels}

-- ---- numbers tell parcels

pub same_head : (n m : ℕ) (l k : List ℕ) → n ∷ l ≡ m ∷ k → n ≡ m
same_head n m l k e = cc

pub same_tail : (n m : ℕ) (l k : List ℕ) → n ∷ l ≡ m ∷ k → l ≡ k
same_tail n m l k e = cc

same_bit : (a b : Bool) → bit_of a ≡ bit_of b → a ≡ b
same_bit true true e = refl
same_bit false false e = refl
same_bit true false e = absurd (omega (arith, e))
same_bit false true e = absurd (omega (arith, e))

-- a counted list in front of others
counted_front : (a b x y : List ℕ) → length a ∷ (a ++ x) ≡ length b ∷ (b ++ y) → (a ≡ b) × (x ≡ y)
counted_front a b x y e =
    let long : length a ≡ length b = same_head _ _ _ _ e in
    let whole : a ++ x ≡ b ++ y = same_tail _ _ _ _ e in (
      sym (take_at a x (length b) long) ∙ ap (take (length b)) whole ∙ take_at b y (length b) refl,
      sym (drop_at a x (length b) long) ∙ ap (drop (length b)) whole ∙ drop_at b y (length b) refl,
    )

abbrev parcel_of : ℕ → Bool → ℕ → ℕ → List ℕ → Parcel
parcel_of agent back run issue bytes = record { agent = agent; back = back; run = run; issue = issue; bytes = bytes }

same_fields : (p q : Parcel) → p.agent ≡ q.agent → p.back ≡ q.back → p.run ≡ q.run → p.issue ≡ q.issue → p.bytes ≡ q.bytes → p ≡ q
same_fields p q agent back run issue bytes =
    ap (λ (n : ℕ). parcel_of n p.back p.run p.issue p.bytes) agent ∙ ap (λ (b : Bool). parcel_of q.agent b p.run p.issue p.bytes) back
    ∙ ap (λ (n : ℕ). parcel_of q.agent q.back n p.issue p.bytes) run ∙ ap (λ (n : ℕ). parcel_of q.agent q.back q.run n p.bytes) issue
    ∙ ap (λ (l : List ℕ). parcel_of q.agent q.back q.run q.issue l) bytes

same_parcel : (p q : Parcel) (x y : List ℕ) → coded_parcel p x ≡ coded_parcel q y → (p ≡ q) × (x ≡ y)
same_parcel p q x y e =
    let one = same_tail _ _ _ _ e in
    let two = same_tail _ _ _ _ one in
    let three = same_tail _ _ _ _ two in
    let four = same_tail _ _ _ _ three in
    let front = counted_front p.bytes q.bytes x y four in
    (same_fields p q (same_head _ _ _ _ e) (same_bit p.back q.back (same_head _ _ _ _ one)) (same_head _ _ _ _ two) (same_head _ _ _ _ three) front.0, front.1)

none_is_some : (n : ℕ) (l : List ℕ) → [] ≡ n ∷ l → ⊥
none_is_some n l e = cc

same_parcels : (ps qs : List Parcel) → coded_parcels ps ≡ coded_parcels qs → ps ≡ qs
same_parcels [] [] e = refl
same_parcels [] (q ∷ qs) e = absurd (none_is_some _ _ e)
same_parcels (p ∷ ps) [] e = absurd (none_is_some _ _ (sym e))
same_parcels (p ∷ ps) (q ∷ qs) e =
    let both = same_parcel p q (coded_parcels ps) (coded_parcels qs) e in
    let rest = same_parcels ps qs both.1 in
    ap (λ (x : Parcel). x ∷ ps) both.0 ∙ ap (λ (xs : List Parcel). q ∷ xs) rest

pair_of : (a b : ℕ) (p q : Parcel) → a ≡ b → p ≡ q → ◌≡◌ {A = ℕ × Parcel} (a, p) (b, q)
pair_of a b p q e f = ap (λ (n : ℕ). (n, p)) e ∙ ap (λ (x : Parcel). (b, x)) f

same_entries : (xs ys : List (ℕ × Parcel)) → coded_entries xs ≡ coded_entries ys → xs ≡ ys
same_entries [] [] e = refl
same_entries [] (y ∷ ys) e = absurd (none_is_some _ _ e)
same_entries (x ∷ xs) [] e = absurd (none_is_some _ _ (sym e))
same_entries (x ∷ xs) (y ∷ ys) e =
    let both = same_parcel x.1 y.1 (coded_entries xs) (coded_entries ys) (same_tail _ _ _ _ e) in
    let rest = same_entries xs ys both.1 in
    let first : x ≡ y = pair_of x.0 y.0 x.1 y.1 (same_head _ _ _ _ e) both.0 in
    ap (λ (z : ℕ × Parcel). z ∷ xs) first ∙ ap (λ (zs : List (ℕ × Parcel)). y ∷ zs) rest

-- ---- and a link

pub same_coded : (o p : Option (List ℕ)) (x y : List ℕ) → coded o x ≡ coded p y → (o ≡ p) × (x ≡ y)
same_coded None None x y e = (refl, same_tail _ _ _ _ e)
same_coded None (Some b) x y e = absurd (let bad : 0 ≡ 1 = same_head _ _ _ _ e in omega (arith, bad))
same_coded (Some a) None x y e = absurd (let bad : 1 ≡ 0 = same_head _ _ _ _ e in omega (arith, bad))
same_coded (Some a) (Some b) x y e =
    let both = counted_front a b x y (same_tail _ _ _ _ e) in
    (ap (λ (l : List ℕ). Some l) both.0, both.1)

same_told : {T : Type 0} (code : List T → List ℕ) → ((xs ys : List T) → code xs ≡ code ys → xs ≡ ys) → (o p : Option (List T)) → option_map code o ≡ option_map code p → o ≡ p
same_told {T} code one None None e = refl
same_told {T} code one None (Some b) e = absurd (cc)
same_told {T} code one (Some a) None e = absurd (cc)
same_told {T} code one (Some a) (Some b) e = let is : code a ≡ code b = cc in ap (λ (l : List T). Some l) (one a b is)

-- what one label tells of two links
pub record SameLinks (a b : LinkView) (x y : List ℕ) : Type 0 where
  pub puts : a.puts ≡ b.puts
  pub taken : a.taken ≡ b.taken
  pub empty_takes : a.empty_takes ≡ b.empty_takes
  pub pending : a.pending ≡ b.pending
  pub behind : x ≡ y

same_links : (a b : LinkView) (x y : List ℕ) → coded_link a x ≡ coded_link b y → SameLinks a b x y
same_links a b x y e =
    let puts = same_coded (option_map coded_entries a.puts) (option_map coded_entries b.puts) _ _ e in
    let taken = same_coded (option_map coded_entries a.taken) (option_map coded_entries b.taken) _ _ puts.1 in
    let empty = same_coded a.empty_takes b.empty_takes _ _ taken.1 in
    let pending = same_coded (option_map coded_parcels a.pending) (option_map coded_parcels b.pending) _ _ empty.1 in
    record {
      puts = same_told coded_entries same_entries a.puts b.puts puts.0;
      taken = same_told coded_entries same_entries a.taken b.taken taken.0;
      empty_takes = empty.0;
      pending = same_told coded_parcels same_parcels a.pending b.pending pending.0;
      behind = pending.1;
    }

-- two sites with one label were lent by one loan, with one link
pub record SameLoans (name : ℕ) (was : SiteView) (name' : ℕ) (was' : SiteView) (x y : List ℕ) : Type 0 where
  pub named : name ≡ name'
  pub mishaps : was.counts.mishaps ≡ was'.counts.mishaps
  pub puts : was.link.puts ≡ was'.link.puts
  pub taken : was.link.taken ≡ was'.link.taken
  pub empty_takes : was.link.empty_takes ≡ was'.link.empty_takes
  pub pending : was.link.pending ≡ was'.link.pending
  pub behind : x ≡ y

pub same_loans : (name name' : ℕ) (was was' : SiteView) (x y : List ℕ) → beneath_label name was x ≡ beneath_label name' was' y → SameLoans name was name' was' x y
same_loans name name' was was' x y e =
    let rest = same_tail _ _ _ _ e in
    let links = same_links was.link was'.link x y (same_tail _ _ _ _ rest) in
    record {
      named = same_head _ _ _ _ e;
      mishaps = same_head _ _ _ _ rest;
      puts = links.puts;
      taken = links.taken;
      empty_takes = links.empty_takes;
      pending = links.pending;
      behind = links.behind;
    }

-- the link as it is told by one of them is that of the other
pub leaves-as : (name name' : ℕ) (was was' now : SiteView) (x y : List ℕ) → SameLoans name was name' was' x y → LeavesLink was now → LeavesLink was' now
leaves-as name name' was was' now x y same leaves = record {
  puts = leaves.puts ∙ same.puts;
  taken = leaves.taken ∙ same.taken;
  empty_takes = leaves.empty_takes ∙ same.empty_takes;
  pending = subst (λ (o : Option (List Parcel)). ∥ Keeps o now.link.pending ∥₁) same.pending leaves.pending;
  mishaps = leaves.mishaps ∙ same.mishaps;
}

-- ---- what stays

keeps-refl : (o : Option (List Parcel)) → Keeps o o
keeps-refl None = ([], tt)
keeps-refl (Some ps) = ([], sym (append-nil ps))

gains-trans : (o p q : Option (List Parcel)) (xs ys : List Parcel) → GainsAll o xs p → GainsAll p ys q → GainsAll o (xs ++ ys) q
gains-trans None None None xs ys a b = tt
gains-trans None None (Some q) xs ys a b = b
gains-trans None (Some p) q xs ys a b = absurd a
gains-trans (Some o) None q xs ys a b = absurd a
gains-trans (Some o) (Some p) None xs ys a b = b
gains-trans (Some o) (Some p) (Some q) xs ys a b = b ∙ (ap (λ (l : List Parcel). l ++ ys) a ∙ append_assoc o xs ys)

pub leaves-refl : (site : SiteView) → LeavesLink site site
leaves-refl site = record { puts = refl; taken = refl; empty_takes = refl; pending = ∣ keeps-refl site.link.pending ∣₁; mishaps = refl }

-- what leaves the link as it is, but for what was held back
pub leaves-more : (was now later : SiteView) → LeavesLink was now → later.link.puts ≡ now.link.puts → later.link.taken ≡ now.link.taken → later.link.empty_takes ≡ now.link.empty_takes
    → Keeps now.link.pending later.link.pending → later.counts.mishaps ≡ now.counts.mishaps → LeavesLink was later
leaves-more was now later leaves puts taken empty pending mishaps = record {
  puts = puts ∙ leaves.puts;
  taken = taken ∙ leaves.taken;
  empty_takes = empty ∙ leaves.empty_takes;
  pending = ∥∥₁_map leaves.pending (λ (k : Keeps was.link.pending now.link.pending). (k.0 ++ pending.0, gains-trans was.link.pending now.link.pending later.link.pending k.0 pending.0 k.1 pending.1));
  mishaps = mishaps ∙ leaves.mishaps;
}

pub same-keeps : (o p : Option (List Parcel)) → p ≡ o → Keeps o p
same-keeps o p e = subst (λ (q : Option (List Parcel)). Keeps o q) (sym e) (keeps-refl o)

-- by a call of the disk, by a line, and by the clock
pub leaves-call : (was now later : SiteView) → LeavesLink was now → SameRest now later → LeavesLink was later
leaves-call was now later leaves rest = leaves-more was now later leaves (ap (λ (l : LinkView). l.puts) rest.link) (ap (λ (l : LinkView). l.taken) rest.link) (ap (λ (l : LinkView). l.empty_takes) rest.link)
    (same-keeps now.link.pending later.link.pending (ap (λ (l : LinkView). l.pending) rest.link)) (ap (λ (c : CountsView). c.mishaps) rest.counts)

pub leaves-line : (was now later : SiteView) → LeavesLink was now → SaysOnly now later → LeavesLink was later
leaves-line was now later leaves says = leaves-more was now later leaves says.puts says.taken says.empty_takes (same-keeps now.link.pending later.link.pending says.pending) says.mishaps

pub leaves-reach : (was now later : SiteView) (moment answer : ℕ) → LeavesLink was now → Reaches moment answer now later → LeavesLink was later
leaves-reach was now later moment answer leaves reaches = leaves-more was now later leaves reaches.puts reaches.taken reaches.empty_takes reaches.pending reaches.mishaps

-- ---- the trait's clauses

pub label-as : (name : ℕ) (was : SiteView) (l k : List ℕ) → l ≡ k → beneath_label name was l ≡ beneath_label name was k
label-as name was l k e = ap (beneath_label name was) e

module _ (name : ℕ) (was : SiteView) (lost : ℕ) (old new : SiteView) where
  pub calls-beneath : (file bytes : ℕ) → CallsOn file bytes old.disk new.disk → CallsOn file bytes (beneath name was lost old).disk (beneath name was lost new).disk
  calls-beneath file bytes call =
      calls_as (beneath_label name was old.disk.label) (beneath_label name was new.disk.label) old.disk new.disk file bytes (label-as name was new.disk.label old.disk.label call.goes_on.label) call

  pub rest-beneath : SameRest old new → SameRest (beneath name was lost old) (beneath name was lost new)
  rest-beneath rest = rest_as (beneath_label name was old.disk.label) (beneath_label name was new.disk.label) lost lost old new refl rest

  pub says-beneath : SaysOnly old new → SaysOnly (beneath name was lost old) (beneath name was lost new)
  says-beneath says =
      says_as (beneath_label name was old.disk.label) (beneath_label name was new.disk.label) lost lost old new (label-as name was new.disk.label old.disk.label says.disk.goes_on.label) refl says

  pub reaches-beneath : (moment answer : ℕ) → Reaches moment answer old new → Reaches moment answer (beneath name was lost old) (beneath name was lost new)
  reaches-beneath moment answer reaches =
      reaches_as (beneath_label name was old.disk.label) (beneath_label name was new.disk.label) lost lost old new moment answer
      (label-as name was new.disk.label old.disk.label reaches.disk.disk.goes_on.label) refl reaches

gains-none : (o : Option (List Parcel)) → GainsAll o [] o
gains-none None = tt
gains-none (Some ps) = sym (append-nil ps)

-- a parcel that is put is lost and counted
pub puts-beneath : (name : ℕ) (was now : SiteView) (lost more : ℕ) (parcel : Parcel) → more ≡ next_count lost → lost ≤ last_count → Puts parcel (beneath name was lost now) (beneath name was more now)
puts-beneath name was now lost more parcel counted few =
    let takes = takes_none_at_all (beneath name was lost now) in
    record {
      disk = record { disk = takes.disk.disk; calls = takes.disk.calls; says = takes.disk.says };
      time = takes.time;
      unsaid = refl;
      mishaps = omega (arith, counted, few);
      puts = inr (refl, omega (arith, counted));
      arrives = λ calm. absurd (omega (arith, counted, calm.0, calm.1));
      pending = (0, gains-none now.link.pending);
      taken = refl;
      empty_takes = refl;
      said = refl;
    }
