-- What the reader of trees reads stands there, byte for byte: one lemma a mark. Assumes nothing.
use Prim.Native.Nat.{ℕ, zero, suc, ◌+◌, ◌*◌, ◌≤◌, ◌<◌}
use mathlib.Core.List.{List, []}
use mathlib.Core.Bool.{Bool, true, false, ◌&&◌}
use mathlib.Core.Option.{some}
use mathlib.Core.Path.{◌≡◌, refl, sym, ap, ◌∙◌, subst}
use lib.ListN.{length, drop, get_or, get_elem?}
use lib.Dec.{leb, ltb, eqb}
use native.Mathlib.Omega.{arith}
use borrow.Author.Tests.{leb-true, eqb-true}
use Rattle.meaning.specs.Syntax.{Signature, Constructor, Term, Branches, File}
use Rattle.meaning.specs.Outcome.{Outcome, ok, then}
use Rattle.meaning.specs.declared.Mark.{Mark}
use Rattle.meaning.specs.declared.Mark.TheVariants.{CN, FN, BD, ND, GV, AT, MK, CL, TL, OP, LK, BR, NU, AR, IF, Other}
use Rattle.meaning.specs.Marks.{find, marks, code, mark_of}
use Rattle.meaning.specs.Reading.{Reader, byte, ensure, any, is_atom, is_node, credits, limits, node, mark, expect, term, branches}
use Rattle.meaning.specs.Ownership.{no_function}
use Rattle.meaning.specs.Plain.{place_of}
use Rattle.standing.specs.Bytes.{bytes_at, mark_at}
use Rattle.standing.specs.Stands.{count, arity, Stands, Each}
use Rattle.standing.specs.Stands as Standing
use Rattle.standing.proofs.Readers.{byte_gen, ensure_gen, declared_gen, below_gen, two_gen, bytes_gen}
use Rattle.standing.proofs.Stood.{Stood, stood, refused, on_with, entry, listed, length_bytes}
use Rattle.standing.proofs.Named.{Named, named}

fit : (k s : ℕ) → (leb k 64 && leb s 32) ≡ true → s ≤ 32
fit k s e = go (leb k 64) refl (leb s 32) refl
  where
    go : (u : Bool) → leb k 64 ≡ u → (v : Bool) → leb s 32 ≡ v → s ≤ 32
    go u eu true ev = leb-true s 32 ev
    go true eu false ev =
        let q : (leb k 64 && leb s 32) ≡ false = rw (eu, ev) in
        let z : false ≡ true = sym q ∙ e in
        let w : ◌≡◌ {A = ℕ} 0 1 = cc in
        absurd (omega arith)
    go false eu false ev =
        let q : (leb k 64 && leb s 32) ≡ false = rw eu in
        let z : false ≡ true = sym q ∙ e in
        let w : ◌≡◌ {A = ℕ} 0 1 = cc in
        absurd (omega arith)

module _ (file : File) (f : List ℕ) where
  abbrev cs : List Constructor
  cs = file.constructors

  abbrev fs : List Signature
  fs = file.functions

  -- a term that stands at a place, and so many branches from a place on
  abbrev pub Good : (at slots : ℕ) → Term → ℕ → Type 0
  Good at slots t n = (place_of t ≡ at) × Stands file f slots t n

  abbrev pub Goods : (extra : Constructor → ℕ) → (many at slots : ℕ) → Branches → ℕ → Type 0
  Goods extra many at slots bs n = (many ≡ count bs) × Each file f slots extra at bs n

  same : (a b : ℕ) → a ≡ b → get_or f a 0 ≡ get_or f b 0
  same a b e = ap (λ n. get_or f n 0) e

  module _ (at slots nodes : ℕ) (T : (slots nodes : ℕ) → Reader Term) (B : (count : ℕ) → (Constructor → ℕ) → (slots nodes : ℕ) → Reader Branches)
      (h_t : (s k a : ℕ) → a ≤ length f → Stood f (Good a s) (T s k a (drop a f)))
      (h_b : (c : ℕ) (x : Constructor → ℕ) (s k a : ℕ) → a ≤ length f → Stood f (Goods x c a s) (B c x s k a (drop a f)))
      (h2 : at + 2 ≤ length f) where
    abbrev Goal : Outcome (Term × ℕ × List ℕ) → Type 0
    Goal o = Stood f (Good at slots) o

    abbrev Holds : Mark → Type 0
    Holds m = Named (mark_at f at) m → Goal (node cs fs T B slots nodes at m (at + 2) (drop (at + 2) f))

    limits_ok : (s a : ℕ) (bytes : List ℕ) (k : Unit {0} × ℕ × List ℕ → Outcome (Term × ℕ × List ℕ)) → (s ≤ 32 → Goal (k (tt, a, bytes)))
        → Goal (then (limits cs fs at s (suc nodes) a bytes) k)
    unfolding limits
    limits_ok s a bytes k g = ensure_gen f Goal 5 at a bytes (leb (suc nodes) 64 && leb s 32) k (λ _. refused) (λ q. g (fit (suc nodes) s q))

    -- the term that follows, at a, with s slots
    then_term : (a s : ℕ) (h : Term × ℕ × List ℕ → Term) → a ≤ length f
        → ((t : Term) (n : ℕ) → place_of t ≡ a → Stands file f s t n → Good at slots (h (t, n, drop n f)) n)
        → Goal (then (T s (suc nodes) a (drop a f)) (λ r. ok (h r, r.1, r.2)))
    then_term a s h l g = on_with f (Good a s) (Good at slots) (T s (suc nodes) a (drop a f)) _ (h_t s (suc nodes) a l) (λ t n q x. stood refl q (g t n x.0 x.1))

    on_GV : Holds GV
    unfolding node
    on_GV m =
        byte_gen f Goal (at + 2) _ h2 (λ _. refused) (λ l. limits_ok slots (suc (at + 2)) (drop (suc (at + 2)) f) _
        (λ q. stood refl l (refl, Standing.GV m (omega arith) refl (omega arith))))

    on_NU : Holds NU
    unfolding node
    on_NU m =
        byte_gen f Goal (at + 2) _ h2 (λ _. refused) (λ l. byte_gen f Goal (suc (at + 2)) _ l (λ _. refused)
        (λ l'. limits_ok (suc slots) (suc (suc (at + 2))) (drop (suc (suc (at + 2))) f) _
        (λ q. then_term (suc (suc (at + 2))) (suc slots) _ l' (λ t n e x. (refl, Standing.NU m (omega arith) (ap (λ b. get_or f (at + 2) 0 * 256 + b) (same (at + 3) (suc (at + 2)) (omega arith))) q (omega arith) x)))))

    on_AR : Holds AR
    unfolding node
    on_AR m =
        below_gen f Goal 4 (at + 2) _ h2 (λ _. refused) (λ _ _. refused) (λ l z. byte_gen f Goal (suc (at + 2)) _ l (λ _. refused)
        (λ l'. byte_gen f Goal (suc (suc (at + 2))) _ l' (λ _. refused) (λ l''. limits_ok (suc slots) (suc (suc (suc (at + 2)))) (drop (suc (suc (suc (at + 2)))) f) _
        (λ q. then_term (suc (suc (suc (at + 2)))) (suc slots) _ l''
        (λ t n e x. (refl, Standing.AR m (omega arith) refl (same (at + 3) (suc (at + 2)) (omega arith)) (same (at + 4) (suc (suc (at + 2))) (omega arith)) q (omega arith) x))))))

    on_IF : Holds IF
    unfolding node
    on_IF m =
        byte_gen f Goal (at + 2) _ h2 (λ _. refused) (λ l. limits_ok slots (suc (at + 2)) (drop (suc (at + 2)) f) _
        (λ q. on_with f (Good (suc (at + 2)) slots) _ (T slots (suc nodes) (suc (at + 2)) (drop (suc (at + 2)) f)) _ (h_t slots (suc nodes) (suc (at + 2)) l)
        (λ t b v x. on_with f (Good b slots) _ (T slots (suc nodes) b (drop b f)) _ (h_t slots (suc nodes) b v)
        (λ u n w y. stood refl w (refl, Standing.IF m (omega arith) refl (omega (arith, x.0)) x.1 y.0 y.1)))))

    on_AT : Holds AT
    unfolding node
    on_AT m =
        declared_gen f Goal cs is_atom (at + 2) _ h2 (λ _. refused) (λ _ _. refused) (λ _ _ _ _. refused)
        (λ l x e z. limits_ok (suc slots) (suc (at + 2)) (drop (suc (at + 2)) f) _
        (λ q. then_term (suc (at + 2)) (suc slots) _ l (λ t n d y. (refl, Standing.AT m (omega arith) refl q (omega arith) y))))

    on_MK : Holds MK
    unfolding node
    on_MK m =
        declared_gen f Goal cs is_node (at + 2) _ h2 (λ _. refused) (λ _ _. refused) (λ _ _ _ _. refused)
        (λ l x e z. byte_gen f Goal (suc (at + 2)) _ l (λ _. refused)
        (λ l'. bytes_gen f Goal (length x) (suc (suc (at + 2))) _ l' (λ _. refused)
        (λ b w v. limits_ok (suc slots) b (drop b f) _ (λ q. then_term b (suc slots) _ v (λ t n d y. (refl, made l x e b w v q t n d y))))))
      where
        made : at + 2 < length f → (x : Constructor) → get_elem? cs (get_or f (at + 2) 0) ≡ some x → (b : ℕ) → b ≡ suc (suc (at + 2)) + length x → b ≤ length f → suc slots ≤ 32
            → (t : Term) (n : ℕ) → place_of t ≡ b → Stands file f (suc slots) t n
            → Stands file f slots (Term.MK at (get_or f (at + 2) 0) (get_or f (suc (at + 2)) 0) (bytes_at f (suc (suc (at + 2))) (length x)) t) n
        made l x e b w v q t n d y =
            let i = entry cs (get_or f (at + 2) 0) x [] e in
            let z = length_bytes f (length x) (suc (suc (at + 2))) in
            Standing.MK {ss = bytes_at f (suc (suc (at + 2))) (length x)} {t = t} m (omega arith) refl (same (at + 3) (suc (at + 2)) (omega arith)) (listed f (length x) (suc (suc (at + 2))) (at + 4) (omega arith)) i.1
            (z ∙ ap length (sym i.0)) q (omega arith) y

    on_CL : Holds CL
    unfolding node
    on_CL m =
        declared_gen f Goal fs any (at + 2) _ h2 (λ _. refused) (λ _ _. refused) (λ _ _ _ _. refused)
        (λ l x e z. bytes_gen f Goal (length x.parameters) (suc (at + 2)) _ l (λ _. refused)
        (λ b w v. limits_ok (suc slots) b (drop b f) _ (λ q. then_term b (suc slots) _ v (λ t n d y. (refl, made l x e b w v q t n d y)))))
      where
        made : at + 2 < length f → (x : Signature) → get_elem? fs (get_or f (at + 2) 0) ≡ some x → (b : ℕ) → b ≡ suc (at + 2) + length x.parameters → b ≤ length f → suc slots ≤ 32
            → (t : Term) (n : ℕ) → place_of t ≡ b → Stands file f (suc slots) t n
            → Stands file f slots (Term.CL at (get_or f (at + 2) 0) (bytes_at f (suc (at + 2)) (length x.parameters)) t) n
        made l x e b w v q t n d y =
            let i = entry fs (get_or f (at + 2) 0) x no_function e in
            let z = length_bytes f (length x.parameters) (suc (at + 2)) in
            Standing.CL {ss = bytes_at f (suc (at + 2)) (length x.parameters)} {t = t} m (omega arith) refl (listed f (length x.parameters) (suc (at + 2)) (at + 3) (omega arith)) i.1
            (z ∙ ap (λ g. length g.parameters) (sym i.0)) q (omega arith) y

    on_TL : Holds TL
    unfolding node
    on_TL m =
        declared_gen f Goal fs any (at + 2) _ h2 (λ _. refused) (λ _ _. refused) (λ _ _ _ _. refused)
        (λ l x e z. bytes_gen f Goal (length x.parameters) (suc (at + 2)) _ l (λ _. refused)
        (λ b w v. limits_ok slots b (drop b f) _ (λ q. stood refl v (refl, made l x e b w v))))
      where
        made : at + 2 < length f → (x : Signature) → get_elem? fs (get_or f (at + 2) 0) ≡ some x → (b : ℕ) → b ≡ suc (at + 2) + length x.parameters → b ≤ length f
            → Stands file f slots (Term.TL at (get_or f (at + 2) 0) (bytes_at f (suc (at + 2)) (length x.parameters))) b
        made l x e b w v =
            let i = entry fs (get_or f (at + 2) 0) x no_function e in
            let z = length_bytes f (length x.parameters) (suc (at + 2)) in
            Standing.TL {next = b} {ss = bytes_at f (suc (at + 2)) (length x.parameters)} m (omega arith) refl (listed f (length x.parameters) (suc (at + 2)) (at + 3) (omega arith)) i.1
            (z ∙ ap (λ g. length g.parameters) (sym i.0)) (omega arith)

    -- the branches of a list: slot, count, limits
    many : (extra : Constructor → ℕ) (h : ℕ → Branches → Term)
        → ((bs : Branches) (n : ℕ) → at + 4 ≤ length f → get_or f (at + 3) 0 ≡ count bs → Each file f slots extra (at + 4) bs n → Good at slots (h (get_or f (at + 2) 0) bs) n)
        → Goal (then (byte (at + 2) (drop (at + 2) f)) (λ s. then (byte s.1 s.2) (λ k. then (ensure 4 s.1 (ltb 0 k.0 && leb k.0 64) k.1 k.2)
        (λ u. then (limits cs fs at slots (suc nodes) u.1 u.2) (λ w. then (B k.0 extra slots (suc nodes) w.1 w.2) (λ r. ok (h s.0 r.0, r.1, r.2)))))))
    many extra h made =
        byte_gen f Goal (at + 2) _ h2 (λ _. refused) (λ l. byte_gen f Goal (suc (at + 2)) _ l (λ _. refused)
        (λ l'. ensure_gen f Goal 4 (suc (at + 2)) (suc (suc (at + 2))) (drop (suc (suc (at + 2))) f) (ltb 0 (get_or f (suc (at + 2)) 0) && leb (get_or f (suc (at + 2)) 0) 64) _ (λ z. refused)
        (λ z. limits_ok slots (suc (suc (at + 2))) (drop (suc (suc (at + 2))) f) _
        (λ q. on_with f (Goods extra (get_or f (suc (at + 2)) 0) (suc (suc (at + 2))) slots) _ (B (get_or f (suc (at + 2)) 0) extra slots (suc nodes) (suc (suc (at + 2))) (drop (suc (suc (at + 2))) f)) _
        (h_b (get_or f (suc (at + 2)) 0) extra slots (suc nodes) (suc (suc (at + 2))) l')
        (λ bs n v x. stood refl v (made bs n (omega arith) (same (at + 3) (suc (at + 2)) (omega arith) ∙ x.0) (from bs n (suc (suc (at + 2))) (omega arith) x.1)))))))
      where
        from : (bs : Branches) (n a : ℕ) → a ≡ at + 4 → Each file f slots extra a bs n → Each file f slots extra (at + 4) bs n
        from bs n a e x = subst (λ k. Each file f slots extra k bs n) e x

    on_OP : Holds OP
    unfolding node
    on_OP m = many credits (λ s bs. Term.OP at s bs) (λ bs n l e x. (refl, Standing.OP m l refl e x))

    on_LK : Holds LK
    unfolding node
    on_LK m = many (λ c. 0) (λ s bs. Term.LK at s bs) (λ bs n l e x. (refl, Standing.LK m l refl e x))

    pub node_stands : (m : Mark) → Holds m
    unfolding node
    node_stands GV = on_GV
    node_stands AT = on_AT
    node_stands MK = on_MK
    node_stands CL = on_CL
    node_stands TL = on_TL
    node_stands OP = on_OP
    node_stands LK = on_LK
    node_stands NU = on_NU
    node_stands AR = on_AR
    node_stands IF = on_IF
    node_stands CN = λ _. refused
    node_stands FN = λ _. refused
    node_stands BD = λ _. refused
    node_stands ND = λ _. refused
    node_stands BR = λ _. refused
    node_stands Other = λ _. refused

  abbrev TermsStand : ℕ → Type 0
  TermsStand n = (s k a : ℕ) → a ≤ length f → Stood f (Good a s) (term cs fs n s k a (drop a f))

  abbrev ListsStand : ℕ → Type 0
  ListsStand n = (c : ℕ) (x : Constructor → ℕ) (s k a : ℕ) → a ≤ length f → Stood f (Goods x c a s) (branches cs fs n c x s k a (drop a f))

  term_turn : (n : ℕ) → TermsStand n → ListsStand n → TermsStand (suc n)
  unfolding term mark mark_of
  term_turn n h_t h_b s k at h =
      two_gen f (Stood f (Good at s)) (λ x y a b. ok (find (x * 256 + y) marks Other, a, b)) at _ h (λ _. refused)
      (λ l. node_stands at s k (λ s' k'. term cs fs n s' k') (λ c x s' k'. branches cs fs n c x s' k') h_t h_b l (mark_of (mark_at f at)) (named (mark_at f at)))

  branch : (at s b n : ℕ) (extra : Constructor → ℕ) (x : Constructor) (t : Term) (bs : Branches) → mark_at f at ≡ code BR → at + 3 ≤ length f → get_elem? cs (get_or f (at + 2) 0) ≡ some x
      → s + (length x + extra x) ≤ 32 → place_of t ≡ suc (at + 2) → Stands file f (s + (length x + extra x)) t b → Each file f s extra b bs n
      → Each file f s extra at (Branches.BR at (get_or f (at + 2) 0) t bs) n
  branch at s b n extra x t bs m l e w d y r =
      let i = entry cs (get_or f (at + 2) 0) x [] e in
      let z : s + (length x + extra x) ≡ s + (arity file f (get_or f (at + 2) 0) + extra (get_or cs (get_or f (at + 2) 0) [])) = ap (λ c. s + (length c + extra c)) (sym i.0) in
      Standing.BR {t = t} refl m l refl i.1 (subst (λ k. k ≤ 32) z w) (omega arith) (subst (λ k. Stands file f k t b) z y) r

  lists_turn : (n : ℕ) → TermsStand n → ListsStand n → ListsStand (suc n)
  unfolding branches expect limits
  lists_turn n h_t h_b zero x s k at h = stood refl h (refl, Standing.end refl)
  lists_turn n h_t h_b (suc c) extra s k at h =
      two_gen f Goal' (λ x y. ensure 3 at (eqb (x * 256 + y) (code BR))) at _ h (λ _. refused)
      (λ l. ensure_gen f Goal' 3 at (at + 2) (drop (at + 2) f) (eqb (mark_at f at) (code BR)) _ (λ _. refused)
      (λ q. declared_gen f Goal' cs any (at + 2) _ l (λ _. refused) (λ _ _. refused) (λ _ _ _ _. refused)
      (λ l' x e z. ensure_gen f Goal' 5 at (suc (at + 2)) (drop (suc (at + 2)) f) (leb k 64 && leb (after x) 32) _ (λ _. refused)
      (λ w. on_with f (Good (suc (at + 2)) (after x)) (Goods extra (suc c) at s) (term cs fs n (after x) k (suc (at + 2)) (drop (suc (at + 2)) f)) _ (h_t (after x) k (suc (at + 2)) l')
      (λ t b v y. on_with f (Goods extra c b s) (Goods extra (suc c) at s) (branches cs fs n c extra s k b (drop b f)) _ (h_b c extra s k b v)
      (λ bs m u y'. stood refl u (ap suc y'.0, branch at s b m extra x t bs (eqb-true (mark_at f at) (code BR) q) (omega arith) e (fit k (after x) w) y.0 y.1 y'.1)))))))
    where
      Goal' : Outcome (Branches × ℕ × List ℕ) → Type 0
      Goal' o = Stood f (Goods extra (suc c) at s) o

      after : Constructor → ℕ
      after x = s + (length x + extra x)

  all_stand : (n : ℕ) → TermsStand n × ListsStand n
  unfolding term branches
  all_stand zero = (λ s k a h. refused, λ c x s k a h. refused)
  all_stand (suc n) = let r = all_stand n in (term_turn n r.0 r.1, lists_turn n r.0 r.1)

  -- a term that the reader of trees reads stands there
  pub term_stands : (n : ℕ) → TermsStand n
  term_stands n = (all_stand n).0
