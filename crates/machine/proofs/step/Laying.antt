-- Several words at once: what they are of, and where they are laid. Assumes nothing.
use Rattle.std.proofs.Common.{◌≡◌, ℕ, zero, suc, ◌+◌, ◌*◌, ◌<◌, ◌≤◌, false, List, [], ◌∷◌, ◌++◌, map, length, get_or, set, sym, refl, ap, ◌∙◌, subst, inl, inr, arith, length-set}
use lib.ListN.{get_or-eq_default}
use Rattle.machine.specs.Layout.{Top, top, going, laid, words, Low}
use Rattle.machine.specs.Represents.{Agrees, Words, Saved, Represents}
use Rattle.machine.proofs.frame.Laid.{laid_length, laid_before, laid_after, laid_at}
use Rattle.machine.proofs.step.Words.{side, words_more, saved_keep, words_give_up}
use Rattle.meaning.specs.Syntax.{Sort, Mode, Term, Constructor, File}
use Rattle.meaning.specs.Outcome.{ok}
use Rattle.meaning.specs.Ownership.{Kind, Slots, Want, take, pass, member}
use Rattle.meaning.specs.Plain.{Value, place_of}
use Rattle.meaning.specs.Machine.{Held, Frame, Store, held, word, taken, give_up, argued, state, fields, opened, looked}
use Rattle.theory.proofs.Gather.{used_up}
use Rattle.theory.proofs.Rep.{Holds, Match}
use Rattle.theory.proofs.Handing.{at_kind, owned_taken}
use Rattle.theory.proofs.Taking.{take_inv, steps_ok, refused}
use Rattle.theory.proofs.Wants.{took_number, took_lent, took_owned}
use Rattle.standing.specs.Stands.{Listed, Stands}

-- words that are what is held
pub data Pairs : List Held → List ℕ → Type 0 where
  none : Pairs [] []
  both : {h : Held} {w : ℕ} {hs : List Held} {ws : List ℕ} → Agrees h w → Pairs hs ws → Pairs (h ∷ hs) (w ∷ ws)

pub pairs_length : {hs : List Held} {ws : List ℕ} → Pairs hs ws → length hs ≡ length ws
pairs_length Pairs.none = refl
pairs_length (both a p) = ap suc (pairs_length p)

pub pairs_at : {hs : List Held} {ws : List ℕ} → Pairs hs ws → (j : ℕ) → j < length hs → Agrees (held hs j) (get_or ws j 0)
pairs_at Pairs.none j l = absurd (omega arith)
pairs_at (both a p) zero l = a
pairs_at (both a p) (suc j) l = pairs_at p j (omega arith)

pub pairs_append : {hs gs : List Held} {ws vs : List ℕ} → Pairs hs ws → Pairs gs vs → Pairs (hs ++ gs) (ws ++ vs)
pairs_append Pairs.none q = q
pairs_append (both a p) q = both a (pairs_append p q)

-- the fields of a cell
pub opened_pairs : (store : Store) (c i p : ℕ) (ss : Constructor) → p ≡ 5 * c + i → Pairs (fields opened store c i ss) (words store p (length ss))
unfolding words
opened_pairs store c i p [] e = Pairs.none
opened_pairs store c i p (Sort.number ∷ ss) e = both (ap (λ q. get_or store q 0) e) (opened_pairs store c (suc i) (p + 1) ss (omega arith))
opened_pairs store c i p (Sort.tree ∷ ss) e = both (ap (λ q. get_or store q 0) e) (opened_pairs store c (suc i) (p + 1) ss (omega arith))

pub looked_pairs : (store : Store) (c i p : ℕ) (ss : Constructor) → p ≡ 5 * c + i → Pairs (fields looked store c i ss) (words store p (length ss))
unfolding words
looked_pairs store c i p [] e = Pairs.none
looked_pairs store c i p (Sort.number ∷ ss) e = both (ap (λ q. get_or store q 0) e) (looked_pairs store c (suc i) (p + 1) ss (omega arith))
looked_pairs store c i p (Sort.tree ∷ ss) e = both (ap (λ q. get_or store q 0) e) (looked_pairs store c (suc i) (p + 1) ss (omega arith))

pub laid_snoc : (l : List ℕ) (p : ℕ) (ws : List ℕ) (w : ℕ) → set (laid l p ws) (p + length ws) w ≡ laid l p (ws ++ (w ∷ []))
unfolding laid
laid_snoc l p [] w = let e : p + 0 ≡ p = omega arith in rw e
laid_snoc l p (v ∷ ws) w = let e : p + suc (length ws) ≡ p + 1 + length ws = omega arith in rw e (laid_snoc (set l p v) (p + 1) ws w)

-- a slot of a kind has its word
pub held_number : {cs : List Constructor} {store : Store} {A F : List ℕ} {h : Held} {v : Value} {w : ℕ} → Holds cs store A Kind.number h v F → Agrees h w → w ≡ word h
held_number Holds.number a = a

pub held_owned : {cs : List Constructor} {store : Store} {A F : List ℕ} {h : Held} {v : Value} {w : ℕ} → Holds cs store A Kind.owned h v F → Agrees h w → w ≡ word h
held_owned (Holds.owned t) a = a

pub held_lent : {cs : List Constructor} {store : Store} {A F : List ℕ} {h : Held} {v : Value} {w : ℕ} → Holds cs store A Kind.lent h v F → Agrees h w → w ≡ word h
held_lent (Holds.lent t q) a = a

-- an argument list: the words that are handed over are those of the slots that it names
module _ (cs : List Constructor) (store : Store) (A : List ℕ) (env : List Value) (work : List ℕ) (base : ℕ) where
  pub argued_pairs : (ms : List Mode) (ss earlier : List ℕ) (p : ℕ) (slots slots' : Slots) (hs : List Held) (F : List ℕ)
      → pass earlier ms ss p slots ≡ ok slots' → Match cs store A slots hs env F → Words work base hs
      → Pairs (argued ms hs ss) (map (λ s. get_or work (base + s) 0) ss) × (map word (argued ms hs ss) ≡ map (λ s. get_or work (base + s) 0) ss)
  unfolding pass
  argued_pairs [] [] earlier p slots slots' hs F e m w = (Pairs.none, refl)
  argued_pairs [] (s ∷ ss) earlier p slots slots' hs F e m w = absurd (refused e)
  argued_pairs (m ∷ ms) [] earlier p slots slots' hs F e k w = absurd (refused e)
  argued_pairs (Mode.number ∷ ms) (s ∷ ss) earlier p slots slots' hs F e m w =
      let a = steps_ok (take false Want.number s p slots) (λ x. pass (s ∷ earlier) ms ss (suc p) x) e in
      let t = took_number (take_inv false Want.number s p slots a.0 a.1) in
      let r = argued_pairs ms ss (s ∷ earlier) (suc p) slots slots' hs F (rw t.1 a.2) m w in
      let q = held_number (at_kind cs store t.0 m).holds (w s) in
      (both q r.0, λ k. sym q k ∷ r.1 k)
  argued_pairs (Mode.lent ∷ ms) (s ∷ ss) earlier p slots slots' hs F e m w =
      let a = steps_ok (take false Want.lent s p slots) (λ x. pass (s ∷ earlier) ms ss (suc p) x) e in
      let t = took_lent (take_inv false Want.lent s p slots a.0 a.1) in
      let r = argued_pairs ms ss (s ∷ earlier) (suc p) slots slots' hs F (rw t.1 a.2) m w in
      let q : get_or work (base + s) 0 ≡ word (held hs s) =
      elim t.0 [ inl u ↦ held_lent (at_kind cs store u m).holds (w s) | inr u ↦ held_owned (at_kind cs store u m).holds (w s) ] in
      (both q r.0, λ k. sym q k ∷ r.1 k)
  argued_pairs (Mode.owned ∷ ms) (s ∷ ss) earlier p slots slots' hs F e m w =
      let a = steps_ok (take (member s earlier) Want.owned s p slots) (λ x. pass (s ∷ earlier) ms ss (suc p) x) e in
      let u = took_owned (take_inv (member s earlier) Want.owned s p slots a.0 a.1) in
      let o = at_kind cs store u.0 m in
      let q = held_owned o.holds (w s) in
      let r = argued_pairs ms ss (s ∷ earlier) (suc p) (set slots s (used_up u.0.slot)) slots' (give_up hs s) o.rest (rw u.1 a.2)
      (o.others (taken (held hs s)) (owned_taken cs store o.holds)) (words_give_up work base hs s w) in
      (both q r.0, λ k. sym q k ∷ r.1 k)

-- a slot that holds something is bound
holds_spent : {cs : List Constructor} {store : Store} {A F : List ℕ} {k : Kind} {h : Held} {v : Value} → Holds cs store A k h v F → h ≡ Held.spent → ⊥
holds_spent Holds.number e = let z : ◌≡◌ {A = ℕ} 0 1 = cc in omega arith
holds_spent (Holds.lent t i) e = let z : ◌≡◌ {A = ℕ} 0 1 = cc in omega arith
holds_spent (Holds.owned t) e = let z : ◌≡◌ {A = ℕ} 0 1 = cc in omega arith
holds_spent (Holds.credit b) e = let z : ◌≡◌ {A = ℕ} 0 1 = cc in omega arith

bound_slot : {cs : List Constructor} {store : Store} {A F : List ℕ} {k : Kind} {v : Value} (hs : List Held) (s : ℕ) → Holds cs store A k (held hs s) v F → s < length hs
bound_slot hs s g = elim (side s (length hs)) [ inl l ↦ l | inr l ↦ absurd (holds_spent g (get_or-eq_default hs Held.spent l)) ]

-- an argument list names bound slots
abbrev pub AllBelow : ℕ → List ℕ → Type 0
AllBelow n [] = Unit {0}
AllBelow n (s ∷ ss) = (s < n) × AllBelow n ss

pub listed_low : (bytes : List ℕ) (p : ℕ) (ss : List ℕ) (n : ℕ) → Listed bytes p ss → AllBelow n ss → n ≤ 32 → Low bytes p (length ss)
listed_low bytes p [] n l b h j i = absurd (omega arith)
listed_low bytes p (s ∷ ss) n l b h zero i = let e : p + 0 ≡ p = omega arith in rw (e, l.0) (omega (arith, b.0))
listed_low bytes p (s ∷ ss) n l b h (suc j) i =
    let e : p + suc j ≡ p + 1 + j = omega arith in rw e (listed_low bytes (p + 1) ss n l.1 b.1 h j (omega arith))

module _ (cs : List Constructor) (store : Store) (A : List ℕ) (env : List Value) where
  pub argued_below : (ms : List Mode) (ss earlier : List ℕ) (p : ℕ) (slots slots' : Slots) (hs : List Held) (F : List ℕ)
      → pass earlier ms ss p slots ≡ ok slots' → Match cs store A slots hs env F → AllBelow (length hs) ss
  unfolding pass
  argued_below [] [] earlier p slots slots' hs F e m = tt
  argued_below [] (s ∷ ss) earlier p slots slots' hs F e m = absurd (refused e)
  argued_below (m ∷ ms) [] earlier p slots slots' hs F e k = absurd (refused e)
  argued_below (Mode.number ∷ ms) (s ∷ ss) earlier p slots slots' hs F e m =
      let a = steps_ok (take false Want.number s p slots) (λ x. pass (s ∷ earlier) ms ss (suc p) x) e in
      let t = took_number (take_inv false Want.number s p slots a.0 a.1) in
      (bound_slot hs s (at_kind cs store t.0 m).holds, argued_below ms ss (s ∷ earlier) (suc p) slots slots' hs F (rw t.1 a.2) m)
  argued_below (Mode.lent ∷ ms) (s ∷ ss) earlier p slots slots' hs F e m =
      let a = steps_ok (take false Want.lent s p slots) (λ x. pass (s ∷ earlier) ms ss (suc p) x) e in
      let t = took_lent (take_inv false Want.lent s p slots a.0 a.1) in
      let q : s < length hs = elim t.0 [ inl u ↦ bound_slot hs s (at_kind cs store u m).holds | inr u ↦ bound_slot hs s (at_kind cs store u m).holds ] in
      (q, argued_below ms ss (s ∷ earlier) (suc p) slots slots' hs F (rw t.1 a.2) m)
  argued_below (Mode.owned ∷ ms) (s ∷ ss) earlier p slots slots' hs F e m =
      let a = steps_ok (take (member s earlier) Want.owned s p slots) (λ x. pass (s ∷ earlier) ms ss (suc p) x) e in
      let u = took_owned (take_inv (member s earlier) Want.owned s p slots a.0 a.1) in
      let o = at_kind cs store u.0 m in
      let r = argued_below ms ss (s ∷ earlier) (suc p) (set slots s (used_up u.0.slot)) slots' (give_up hs s) o.rest (rw u.1 a.2)
      (o.others (taken (held hs s)) (owned_taken cs store o.holds)) in
      (bound_slot hs s o.holds, subst (λ n. AllBelow n ss) (length-set hs s (taken (held hs s))) r)

append_length : (hs gs : List Held) → length (hs ++ gs) ≡ length hs + length gs
append_length [] gs = let e : 0 + length gs ≡ length gs = omega arith in sym e
append_length (h ∷ hs) gs = let e : suc (length hs + length gs) ≡ suc (length hs) + length gs = omega arith in ap suc (append_length hs gs) ∙ e

module _ (file : File) (bytes : List ℕ) where
  -- words laid after the slots of the top frame
  pub lays : (c : Top) (hs gs : List Held) (ws : List ℕ) (under : List Frame) (store : Store) (t : Term) (b n nx : ℕ)
      → c.state.frame.depth ≡ length under → length under ≤ 31 → c.state.frame.bound ≡ length hs → length hs + length gs ≤ 32 → Words c.work (length under * 32) hs
      → Saved file bytes c.work under → 4096 ≤ length c.work → Pairs gs ws → b ≡ place_of t → n ≡ length hs + length gs → Stands file bytes (length hs + length gs) t nx
      → Represents file bytes store (top (going b c.state.frame.depth n c.state.most) (laid c.work (c.state.frame.depth * 32 + c.state.frame.bound) ws)) (state store t (hs ++ gs) under)
  lays c hs gs ws under store t b n nx d e f l w s r p h k x =
      record {
        same = refl;
        here = h;
        next = nx;
        stands = subst (λ k. Stands file bytes k t nx) (sym (append_length hs gs)) x;
        depth = d;
        deep = e;
        bound = k ∙ sym (append_length hs gs);
        few = omega (arith, append_length hs gs);
        words = rw (d, f) (words_more c.work work' (length under * 32) hs gs w (λ i m. laid_before c.work q ws (length under * 32 + i) (omega arith))
            (λ j m.
            let z : length under * 32 + (length hs + j) ≡ q + j = omega arith in
            rw z (subst (λ y. Agrees (held gs j) y) (sym (laid_at c.work q ws j (omega (arith, long)) (omega (arith, long)))) (pairs_at p j m))));
        saved = rw (d, f) (saved_keep file bytes c.work work' under e (λ y i. laid_before c.work q ws y (omega arith))
            (λ y i j. laid_after c.work q ws y (omega (arith, long))) s);
        room = rw (laid_length c.work (c.state.frame.depth * 32 + c.state.frame.bound) ws) r;
      }
    where
      q : ℕ
      q = length under * 32 + length hs

      work' : List ℕ
      work' = laid c.work q ws

      long : length gs ≡ length ws
      long = pairs_length p
