-- The proof of `name_fields`. Assumes nothing.
use Rattle.std.proofs.Common.{◌≡◌, ℕ, suc, ◌+◌, ◌-◌, ◌/◌, List, get_or, sym, ap, ◌∙◌, arith}
use Rattle.std.specs.List.{between}
use Rattle.std.proofs.lemmas.List.Edits.{length-between, get_or-between}
use Rattle.machine.specs.StartWords.{field_fine, trees_fine}
use Rattle.machine.specs.StartArea.{field_at, fields_at}
use Rattle.machine.specs.StartWalk.{area_of}
use Rattle.machine.proofs.start.Turns.{fields_none, fields_more, fields_end, trees_more, trees_out, trees_end}
use Rattle.machine.proofs.start.Fields.{trees_none}
use Rattle.machine.proofs.start.Goes.{went_err, going_on, going_stop, going_done}
use Rattle.machine.proofs.start.Walk.name_fields.Goals as goal

pub returns-in_err-name_field : goal.returns-in_err-name_field
returns-in_err-name_field c =
    let a = c.args.self.now in
    let s = a.store.now in
    let b = c.loop-w.self in
    let at = c.args.at in
    let i = c.loop-w.w-index in
    let k = c.loop-w.rest in
    let l = length-between s at (at + 4) (omega arith) in
    let e : 4 - i ≡ suc (4 - (i + 1)) = omega arith in
    let item = get_or-between s at (at + 4) i 0 (omega arith) in
    let v = get_or (between at (at + 4) s) i 0 in
    let fine = λ (x y : List ℕ) (z : ℕ). field_fine x y k v in
    let meant = λ (x y : List ℕ) (z : ℕ). field_at x y z k v (area_of b) in
    went_err c.from_residual.ensures.1
    (going_stop fine meant c.loop-w.invariant c.in_err-name_field.ensures (λ z. trees_out a.codes.now s _ _ k (at + i) e (ap (field_fine a.codes.now s k) (sym item) ∙ z)))

pub loop-w-preserved : goal.loop-w-preserved
loop-w-preserved c =
    let a = c.args.self.now in
    let s = a.store.now in
    let b = c.loop-w.self in
    let at = c.args.at in
    let i = c.loop-w.w-index in
    let k = c.loop-w.rest in
    let l = length-between s at (at + 4) (omega arith) in
    let e : 4 - i ≡ suc (4 - (i + 1)) = omega arith in
    let item = get_or-between s at (at + 4) i 0 (omega arith) in
    let v = get_or (between at (at + 4) s) i 0 in
    let fine = λ (x y : List ℕ) (z : ℕ). field_fine x y k v in
    let meant = λ (x y : List ℕ) (z : ℕ). field_at x y z k v (area_of b) in
    let x = c.name_field.new.self in
    let p : at + i + 1 ≡ at + (i + 1) = omega arith in
    going_on fine meant c.loop-w.invariant c.in_ok-name_field.ensures
    (λ z y. trees_more a.codes.now s _ _ k (at + i) e (ap (field_fine a.codes.now s k) (sym item) ∙ z) ∙ ap (trees_fine a.codes.now s (4 - (i + 1)) (k / 2)) p)
    (λ z. fields_more a.codes.now s a.base _ _ k (at + i) (area_of b) (area_of x) e (z ∙ ap (λ j. field_at a.codes.now s a.base k j (area_of b)) item)
    ∙ ap (λ j. fields_at a.codes.now s a.base (4 - (i + 1)) (k / 2) j (area_of x)) p)

pub returns-after-loop-w : goal.returns-after-loop-w
returns-after-loop-w c =
    let a = c.args.self.now in
    let s = a.store.now in
    let b = c.loop-w.self in
    let at = c.args.at in
    let i = c.loop-w.w-index in
    let k = c.loop-w.rest in
    let l = length-between s at (at + 4) (omega arith) in
    let e : 4 - i ≡ 0 = omega arith in
    going_done c.loop-w.invariant (trees_end a.codes.now s _ k _ e) (fields_end a.codes.now s a.base _ k _ (area_of b) e)

pub returns-then-rest-eq0 : goal.returns-then-rest-eq0
returns-then-rest-eq0 c =
    let a = c.args.self.now in
    let s = a.store.now in
    let b = area_of c.loop-w.self in
    let n = 4 - c.loop-w.w-index in
    let p = c.args.at + c.loop-w.w-index in
    let z = c.if-rest-eq0.true in
    going_done c.loop-w.invariant
    (ap (λ k. trees_fine a.codes.now s n k p) z ∙ trees_none a.codes.now s n p)
    (ap (λ k. fields_at a.codes.now s a.base n k p b) z ∙ fields_none a.codes.now s a.base n p b)
