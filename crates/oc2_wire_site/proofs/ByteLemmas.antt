-- Bytes that go out and come in, one call after another.
use Rattle.std.proofs.Common.{◌≡◌, ◌∙◌, ◌≤◌, ℕ, ◌+◌, ◌-◌, List, [], ◌++◌, length, take, drop, Option, Some, None, refl, ap, sym, subst, arith, length-drop}
use Rattle.std.proofs.Math.Seq.{take-add}
use Rattle.std.proofs.lemmas.List.{append-nil, append_assoc, take_rest}
use Rattle.cacao_site.specs.LinkCalls.{GainsAll}
use Rattle.oc2_wire_link.specs.Links.{Comes, LinkView, Sends}

-- ---- lists that are told or not

pub gains_none : (o : Option (List ℕ)) → GainsAll o [] o
gains_none (Some old) = sym (append-nil old)
gains_none None = tt

pub gains_on : (old mid new : Option (List ℕ)) (xs ys : List ℕ) → GainsAll old xs mid → GainsAll mid ys new → GainsAll old (xs ++ ys) new
gains_on None None None xs ys a b = tt
gains_on None None (Some new) xs ys a b = absurd b
gains_on None (Some mid) new xs ys a b = absurd a
gains_on (Some old) None new xs ys a b = absurd a
gains_on (Some old) (Some mid) None xs ys a b = absurd b
gains_on (Some old) (Some mid) (Some new) xs ys a b = b ∙ ap (λ (l : List ℕ). l ++ ys) a ∙ append_assoc old xs ys

pub comes_none : (o : Option (List ℕ)) → Comes o [] o
comes_none (Some old) = refl
comes_none None = tt

pub comes_on : (old mid new : Option (List ℕ)) (xs ys : List ℕ) → Comes old xs mid → Comes mid ys new → Comes old (xs ++ ys) new
comes_on None None None xs ys a b = tt
comes_on None None (Some new) xs ys a b = absurd b
comes_on None (Some mid) new xs ys a b = absurd a
comes_on (Some old) None new xs ys a b = absurd a
comes_on (Some old) (Some mid) None xs ys a b = absurd b
comes_on (Some old) (Some mid) (Some new) xs ys a b = a ∙ ap (λ (l : List ℕ). xs ++ l) b ∙ sym (append_assoc xs ys new)

-- the same, where the list before or behind has another name
pub gains_same : (old new : Option (List ℕ)) → new ≡ old → GainsAll old [] new
gains_same old new e = subst (λ (o : Option (List ℕ)). GainsAll old [] o) (sym e) (gains_none old)

pub gains_to : (old mid new : Option (List ℕ)) (xs : List ℕ) → GainsAll old xs mid → new ≡ mid → GainsAll old xs new
gains_to old mid new xs gains e = subst (λ (o : Option (List ℕ)). GainsAll old xs o) (sym e) gains

pub gains_from : (old mid new : Option (List ℕ)) (xs : List ℕ) → mid ≡ old → GainsAll mid xs new → GainsAll old xs new
gains_from old mid new xs e gains = subst (λ (o : Option (List ℕ)). GainsAll o xs new) e gains

pub comes_same : (old new : Option (List ℕ)) → new ≡ old → Comes old [] new
comes_same old new e = subst (λ (o : Option (List ℕ)). Comes old [] o) (sym e) (comes_none old)

-- ---- bytes that went out so far

-- the front of these bytes went out, and no call failed
pub record SentSoFar (bytes : List ℕ) (from : ℕ) (old new : LinkView) : Type 0 where
  pub fits : from ≤ length bytes
  pub sends : Sends (take from bytes) old new
  pub faults : new.faults ≡ old.faults

pub sent_none : (bytes : List ℕ) (link : LinkView) → SentSoFar bytes 0 link link
sent_none bytes link = record {
  fits = omega arith;
  sends = record { sent = gains_none link.sent; received = refl; to_come = refl };
  faults = refl;
}

pub sent_more : (bytes : List ℕ) (from n : ℕ) (old mid new : LinkView) → SentSoFar bytes from old mid → n ≤ length (take (length bytes - from) (drop from bytes))
    → Sends (take n (take (length bytes - from) (drop from bytes))) mid new → new.faults ≡ mid.faults → SentSoFar bytes (from + n) old new
sent_more bytes from n old mid new so_far few more faults =
    let fits : n ≤ length (drop from bytes) = subst (λ (l : List ℕ). n ≤ length l) (take_rest bytes from) few in
    let sends : Sends (take n (drop from bytes)) mid new = subst (λ (l : List ℕ). Sends (take n l) mid new) (take_rest bytes from) more in
    record {
      fits = omega (arith, fits, length-drop from bytes, so_far.fits);
      sends = record {
        sent = subst (λ (l : List ℕ). GainsAll old.sent l new.sent) (sym (take-add from n bytes)) (gains_on old.sent mid.sent new.sent (take from bytes) (take n (drop from bytes)) so_far.sends.sent sends.sent);
        received = sends.received ∙ so_far.sends.received;
        to_come = sends.to_come ∙ so_far.sends.to_come;
      };
      faults = faults ∙ so_far.faults;
    }

-- ---- bytes that came in so far
