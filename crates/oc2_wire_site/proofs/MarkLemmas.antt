-- What calls on a disk and a site are, where these are marked.
use Rattle.std.proofs.Common.{◌≡◌, ◌∙◌, ℕ, Bool, true, false, List, [], ◌∷◌, ◌++◌, length, take, drop, Option, Some, None, refl, ap, sym, arith}
use Rattle.std.proofs.lemmas.List.{drop_at, take_at}
use Rattle.cacao_site.specs.DiskCalls.{CallsOn, GoesOn, KeepsDisk, StaysAt}
use Rattle.cacao_site.specs.SayCalls.{SaysOnly}
use Rattle.cacao_site.specs.SiteCalls.{Reaches}
use Rattle.cacao_site.specs.View.{DiskView, SiteView}
use Rattle.cacao_site.specs.declared.parcel.Parcel.{Parcel}
use Rattle.oc2_wire_site.specs.Marks.{WireMark, coded, mark_label, marked_disk, marked_site}
use Rattle.oc2_wire_site.specs.Wires.{wire_view}

goes_on_marked : {a b : DiskView} (asking : Bool) (mark : WireMark) → GoesOn a b → GoesOn (marked_disk asking mark a) (marked_disk asking mark b)
goes_on_marked asking mark on = record { told = on.told; later = on.later; past = on.past; calls = on.calls; written = on.written; faults = on.faults; label = ap (mark_label asking mark) on.label }

stays_marked : {a b : DiskView} (asking : Bool) (mark : WireMark) (file : ℕ) → StaysAt a b file → StaysAt (marked_disk asking mark a) (marked_disk asking mark b) file
stays_marked asking mark file stays = record { reads = stays.reads; images = stays.images }

keeps_marked : {a b : DiskView} (asking : Bool) (mark : WireMark) → KeepsDisk a b → KeepsDisk (marked_disk asking mark a) (marked_disk asking mark b)
keeps_marked asking mark keeps = record { goes_on = goes_on_marked asking mark keeps.goes_on; stays = λ file. stays_marked asking mark file (keeps.stays file); written = keeps.written; faults = keeps.faults }

pub calls_marked : {a b : DiskView} (asking : Bool) (mark : WireMark) (file bytes : ℕ) → CallsOn file bytes a b → CallsOn file bytes (marked_disk asking mark a) (marked_disk asking mark b)
calls_marked asking mark file bytes call = record {
  goes_on = goes_on_marked asking mark call.goes_on;
  takes_beat = call.takes_beat;
  others = λ other ne. stays_marked asking mark other (call.others other ne);
  calls = call.calls;
  written = call.written;
  counted = call.counted;
  handed = call.handed;
}

-- a site over a link, whose lists stay
module _ (asking : Bool) (mark : WireMark) (puts taken : List (ℕ × Parcel)) (empty : List ℕ) (m : ℕ) where
  pub says_marked : {a b : SiteView} → SaysOnly a b → SaysOnly (wire_view (marked_site asking mark a) puts taken empty m) (wire_view (marked_site asking mark b) puts taken empty m)
  says_marked says = record {
    disk = keeps_marked asking mark says.disk;
    calls = says.calls;
    later = says.later;
    says = says.says;
    counted = says.counted;
    puts = refl;
    taken = refl;
    empty_takes = refl;
    pending = refl;
    time = says.time;
    mishaps = refl;
    unsaid = says.unsaid;
  }

  pub reaches_marked : {a b : SiteView} (moment answer : ℕ) → Reaches moment answer a b → Reaches moment answer (wire_view (marked_site asking mark a) puts taken empty m) (wire_view (marked_site asking mark b) puts taken empty m)
  reaches_marked moment answer reaches = record {
    disk = record { disk = keeps_marked asking mark reaches.disk.disk; calls = reaches.disk.calls; says = reaches.disk.says };
    later = reaches.later;
    now = reaches.now;
    asked = reaches.asked;
    furthest = reaches.furthest;
    short = reaches.short;
    reached = reaches.reached;
    mishaps = refl;
    unsaid = reaches.unsaid;
    puts = refl;
    taken = refl;
    empty_takes = refl;
    said = reaches.said;
    pending = ([], tt);
  }

-- ---- what a label tells

same_head : (n m : ℕ) (l k : List ℕ) → n ∷ l ≡ m ∷ k → n ≡ m
same_head n m l k e = cc

same_tail : (n m : ℕ) (l k : List ℕ) → n ∷ l ≡ m ∷ k → l ≡ k
same_tail n m l k e = cc

same_front : (a b x y : List ℕ) → length a ≡ length b → a ++ x ≡ b ++ y → a ≡ b
same_front a b x y long e = sym (take_at a x (length b) long) ∙ ap (take (length b)) e ∙ take_at b y (length b) refl

same_back : (a b x y : List ℕ) → length a ≡ length b → a ++ x ≡ b ++ y → x ≡ y
same_back a b x y long e = sym (drop_at a x (length b) long) ∙ ap (drop (length b)) e ∙ drop_at b y (length b) refl

same_list : (a b x y : List ℕ) → 1 ∷ length a ∷ (a ++ x) ≡ 1 ∷ length b ∷ (b ++ y) → (a ≡ b) × (x ≡ y)
same_list a b x y e =
    let behind : length a ∷ (a ++ x) ≡ length b ∷ (b ++ y) = same_tail _ _ _ _ e in
    let long : length a ≡ length b = same_head _ _ _ _ behind in
    let whole : a ++ x ≡ b ++ y = same_tail _ _ _ _ behind in
    (same_front a b x y long whole, same_back a b x y long whole)

one_is_not_none : (l k : List ℕ) → 1 ∷ l ≡ 0 ∷ k → ⊥
one_is_not_none l k e = let bad : 1 ≡ 0 = same_head _ _ _ _ e in omega (arith, bad)

same_coded : (o p : Option (List ℕ)) (x y : List ℕ) → coded o x ≡ coded p y → (o ≡ p) × (x ≡ y)
same_coded None None x y e = (refl, same_tail _ _ _ _ e)
same_coded None (Some b) x y e = absurd (one_is_not_none (length b ∷ (b ++ y)) x (sym e))
same_coded (Some a) None x y e = absurd (one_is_not_none (length a ∷ (a ++ x)) y e)
same_coded (Some a) (Some b) x y e = let is = same_list a b x y e in (ap Some is.0, is.1)

pub same_end : (asking other : Bool) (mark mark' : WireMark) (x y : List ℕ) → mark_label asking mark x ≡ mark_label other mark' y → asking ≡ other
same_end true true mark mark' x y e = refl
same_end false false mark mark' x y e = refl
same_end true false mark mark' x y e = let bad : 1 ≡ 0 = same_head _ _ _ _ e in absurd (omega (arith, bad))
same_end false true mark mark' x y e = let bad : 0 ≡ 1 = same_head _ _ _ _ e in absurd (omega (arith, bad))

-- the mark, but for what it tells of faults and of what broke the link
pub record IsSameMark (a b : WireMark) : Type 0 where
  pub passed : a.lines.passed ≡ b.lines.passed
  pub taken : a.taken ≡ b.taken
  pub puts : a.puts ≡ b.puts
  pub received : a.lines.link.received ≡ b.lines.link.received
  pub to_come : a.lines.link.to_come ≡ b.lines.link.to_come
  pub sent : a.lines.link.sent ≡ b.lines.link.sent
  pub unread : a.lines.unread ≡ b.lines.unread

pub same_mark : (asking other : Bool) (a b : WireMark) (x y : List ℕ) → mark_label asking a x ≡ mark_label other b y → IsSameMark a b
same_mark asking other a b x y e =
    let one = same_tail _ _ _ _ e in
    let two = same_tail _ _ _ _ one in
    let three = same_tail _ _ _ _ two in
    let four = same_tail _ _ _ _ three in
    let received = same_coded a.lines.link.received b.lines.link.received _ _ four in
    let to_come = same_coded a.lines.link.to_come b.lines.link.to_come _ _ received.1 in
    let sent = same_coded a.lines.link.sent b.lines.link.sent _ _ to_come.1 in
    let unread = same_list a.lines.unread b.lines.unread x y sent.1 in
    record {
      passed = same_head _ _ _ _ one;
      taken = same_head _ _ _ _ two;
      puts = same_head _ _ _ _ three;
      received = received.0;
      to_come = to_come.0;
      sent = sent.0;
      unread = unread.0;
    }
