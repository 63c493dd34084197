-- A file that is read stands in its bytes as its table says. Assumes nothing.
use Prim.Native.Nat.{ℕ, zero, suc, ◌+◌, ◌*◌, ◌≤◌, ◌<◌}
use mathlib.Core.List.{List, [], ◌∷◌, ◌++◌, map}
use mathlib.Core.Path.{◌≡◌, refl, sym, ◌∙◌, subst}
use lib.ListN.{length, drop, get_or, length-append, length-map, get_or-append, get_or-map}
use native.Mathlib.Omega.{arith}
use Rattle.meaning.specs.Syntax.{Term, File}
use Rattle.meaning.specs.Outcome.{ok}
use Rattle.meaning.specs.Reading.{bodies, read}
use Rattle.meaning.specs.Plain.{place_of, no_body}
use Rattle.meaning.specs.Machine.{function_of, body_of}
use Rattle.standing.specs.Bytes.{byte_at, arity_in, fields_in, params_in, modes_in, body_in}
use Rattle.standing.specs.Stands.{arity}
use Rattle.standing.specs.Table.{con_words, con_end, fun_words, filled, table_of, sort_byte, Sorts, Modes, Declared}
use Rattle.standing.proofs.Stood.{Stood, got}
use Rattle.standing.proofs.Records.{FunAt}
use Rattle.standing.proofs.Heads.{Opened, read_opened}
use Rattle.standing.proofs.Bodies.{Laid, bodies_stood, ends_of, each_stands, each_inside, laid_many, laid_first}
use Rattle.standing.proofs.Words.{filled_length, filled_given, filled_none, past, Fit, fit_append, fit_filled, con_many, con_word, con_small, con_fit, fun_many, fun_word, fun_small, fun_fit}

fit_places : (ts : List Term) → ((i : ℕ) → i < length ts → place_of (get_or ts i no_body) ≤ 4096) → Fit (map place_of ts)
fit_places [] h i = omega arith
fit_places (t ∷ ts) h zero = let z = h 0 (omega arith) in omega arith
fit_places (t ∷ ts) h (suc i) = fit_places ts (λ j l. h (suc j) (omega arith)) i

module _ (f : List ℕ) (file : File) (O : Opened f file) (size : length f ≤ 4096) where
  -- the bodies stand from behind BD on
  pub laid : Laid file f file.functions (O.at + 2) file.bodies
  laid =
      subst (λ ts. Laid file f file.functions (O.at + 2) ts) O.gives
      (got (subst (Stood f (λ ts n. Laid file f file.functions (O.at + 2) ts)) O.reads (bodies_stood file f (length f) file.functions (O.at + 2) O.inside))).0

  -- the three parts of the table
  abbrev first_part : List ℕ
  first_part = con_words 0 file.constructors

  abbrev second_part : List ℕ
  second_part = fun_words (con_end 0 file.constructors) file.functions

  abbrev third_part : List ℕ
  third_part = map place_of file.bodies

  wide_1 : length (filled 64 first_part) ≡ 64
  wide_1 = let e = con_many f file.constructors 0 in let l = O.heads.few in filled_length 64 first_part (omega arith)

  wide_2 : length (filled 32 second_part) ≡ 32
  wide_2 = let e = fun_many f file.functions (con_end 0 file.constructors) in let l = O.heads.few_functions in filled_length 32 second_part (omega arith)

  many_3 : length third_part ≡ length file.functions
  many_3 = length-map file.bodies place_of ∙ laid_many file f laid

  wide_3 : length (filled 32 third_part) ≡ 32
  wide_3 = let e = many_3 in let l = O.heads.few_functions in filled_length 32 third_part (omega arith)

  in_1 : (i : ℕ) → i < 64 → get_or (table_of file) i 0 ≡ get_or (filled 64 first_part) i 0
  unfolding table_of
  in_1 i h = let w = wide_1 in get_or-append (filled 64 first_part) (filled 32 second_part ++ filled 32 third_part) 0 i (omega arith)

  in_2 : (i : ℕ) → i < 32 → get_or (table_of file) (64 + i) 0 ≡ get_or (filled 32 second_part) i 0
  unfolding table_of
  in_2 i h =
      let w = wide_2 in
      past (filled 64 first_part) (filled 32 second_part ++ filled 32 third_part) 64 i (64 + i) wide_1 refl
      ∙ get_or-append (filled 32 second_part) (filled 32 third_part) 0 i (omega arith)

  in_3 : (i : ℕ) → get_or (table_of file) (96 + i) 0 ≡ get_or (filled 32 third_part) i 0
  unfolding table_of
  in_3 i =
      past (filled 64 first_part) (filled 32 second_part ++ filled 32 third_part) 64 (32 + i) (96 + i) wide_1 (omega arith)
      ∙ past (filled 32 second_part) (filled 32 third_part) 32 i (32 + i) wide_2 refl

  con_at : (c : ℕ) → c < length file.constructors
      → (p : ℕ) × (get_or (table_of file) c 0 ≡ length (get_or file.constructors c []) + 256 * p) × Sorts f p (get_or file.constructors c []) × (p ≤ length f)
  con_at c h =
      let l = O.heads.few in
      let e = con_many f file.constructors 0 in
      let w = con_word f file.constructors 0 c O.heads.cons h in
      (w.0, in_1 c (omega arith) ∙ filled_given 64 first_part c (omega arith) ∙ w.1, w.2, w.3)

  fun_at : (g : ℕ) → g < length file.functions
      → (p : ℕ) × (get_or (table_of file) (64 + g) 0 ≡ length (function_of file g).parameters + 256 * (p + 3)) × FunAt f p (function_of file g)
  fun_at g h =
      let l = O.heads.few_functions in
      let e = fun_many f file.functions (con_end 0 file.constructors) in
      let w = fun_word f file.functions (con_end 0 file.constructors) g O.heads.funs h in
      (w.0, in_2 g (omega arith) ∙ filled_given 32 second_part g (omega arith) ∙ w.1, w.2)

  table_wide : length (table_of file) ≡ 128
  unfolding table_of
  table_wide =
      let a = length-append (filled 64 first_part) (filled 32 second_part ++ filled 32 third_part) in
      let b = length-append (filled 32 second_part) (filled 32 third_part) in
      omega (arith, a, b, wide_1, wide_2, wide_3)

  table_words : Fit (table_of file)
  unfolding table_of
  table_words =
      fit_append (filled 64 first_part) (filled 32 second_part ++ filled 32 third_part) (fit_filled 64 first_part (con_fit f file.constructors 0 size O.heads.cons))
      (fit_append (filled 32 second_part) (filled 32 third_part)
      (fit_filled 32 second_part (fun_fit f file.functions (con_end 0 file.constructors) size O.heads.funs))
      (fit_filled 32 third_part (fit_places file.bodies (λ i h. let e = laid_many file f laid in let z = each_inside file f laid i (omega arith) in omega arith))))

  small_arity : (c : ℕ) → arity file f c ≤ 4
  small_arity c = con_small f file.constructors 0 c O.heads.cons

  few_parameters : (g : ℕ) → length (function_of file g).parameters ≤ 8
  few_parameters g = fun_small f file.functions (con_end 0 file.constructors) g O.heads.funs

  table_arities : (c : ℕ) → c < length file.constructors → arity_in (table_of file) c ≡ arity file f c
  table_arities c h = let w = con_at c h in let e = w.1 in let s = small_arity c in omega arith

  table_sorts : (c : ℕ) → c < length file.constructors → Sorts f (fields_in (table_of file) c) (get_or file.constructors c [])
  table_sorts c h =
      let w = con_at c h in
      let e = w.1 in
      let s = small_arity c in
      let z : w.0 ≡ fields_in (table_of file) c = omega arith in
      subst (λ p. Sorts f p (get_or file.constructors c [])) z w.2

  no_more_constructors : (c : ℕ) → length file.constructors ≤ c → c < 64 → arity_in (table_of file) c ≡ 255
  no_more_constructors c h l =
      let e = con_many f file.constructors 0 in
      let z : get_or (table_of file) c 0 ≡ 255 = in_1 c l ∙ filled_none 64 first_part c (omega arith) l in
      omega arith

  table_parameters : (g : ℕ) → g < length file.functions → params_in (table_of file) g ≡ length (function_of file g).parameters
  table_parameters g h = let w = fun_at g h in let e = w.1 in let s = few_parameters g in omega arith

  no_more_functions : (g : ℕ) → length file.functions ≤ g → g < 32 → params_in (table_of file) g ≡ 255
  no_more_functions g h l =
      let e = fun_many f file.functions (con_end 0 file.constructors) in
      let z : get_or (table_of file) (64 + g) 0 ≡ 255 = in_2 g l ∙ filled_none 32 second_part g (omega arith) l in
      omega arith

  modes_place : (g : ℕ) (h : g < length file.functions) → (fun_at g h).0 + 3 ≡ modes_in (table_of file) g
  modes_place g h = let e = (fun_at g h).1 in let s = few_parameters g in omega arith

  table_modes : (g : ℕ) → g < length file.functions → Modes f (modes_in (table_of file) g) (function_of file g).parameters
  table_modes g h = subst (λ p. Modes f p (function_of file g).parameters) (modes_place g h) (fun_at g h).2.1

  table_result : (g : ℕ) → g < length file.functions
      → (byte_at f (modes_in (table_of file) g + params_in (table_of file) g) ≡ sort_byte (function_of file g).result) × (modes_in (table_of file) g + params_in (table_of file) g < length f)
  table_result g h =
      let w = (fun_at g h).2 in
      let z : (fun_at g h).0 + 3 + length (function_of file g).parameters ≡ modes_in (table_of file) g + params_in (table_of file) g = omega (arith, modes_place g h, table_parameters g h) in
      (subst (λ p. byte_at f p ≡ sort_byte (function_of file g).result) z w.2, subst (λ p. p < length f) z w.3)

  table_bodies : (g : ℕ) → g < length file.functions → body_in (table_of file) g ≡ place_of (body_of file g)
  table_bodies g h =
      let e = many_3 in
      in_3 g ∙ filled_given 32 third_part g (omega arith) ∙ get_or-map place_of file.bodies g no_body

  first_body : body_in (table_of file) 0 ≡ O.at + 2
  first_body = table_bodies 0 O.first ∙ laid_first file f laid O.first

  opened_declared : Declared file f (table_of file)
  opened_declared = record {
    wide = table_wide;
    words = table_words;
    constructors = O.heads.few;
    functions = O.heads.few_functions;
    first = O.first;
    arities = table_arities;
    small = small_arity;
    no_constructor = no_more_constructors;
    sorts = table_sorts;
    parameters = table_parameters;
    few = few_parameters;
    no_function = no_more_functions;
    modes = table_modes;
    result = table_result;
    many = laid_many file f laid;
    bodies = table_bodies;
    ends = ends_of file f laid;
    stands = each_stands file f laid;
    size = size;
  }

-- a file that is read: what its table says of it, and that its bodies stand
pub read_declared : (bytes : List ℕ) (file : File) → read bytes ≡ ok file → Declared file bytes (table_of file)
read_declared bytes file e = let o = read_opened bytes file e in opened_declared bytes file o.0 o.1

-- the bodies are read from the place of the first body's term
pub read_bodies : (bytes : List ℕ) (file : File) → read bytes ≡ ok file
    → (r : List Term × ℕ × List ℕ)
    × (bodies (length bytes) file.constructors file.functions file.functions (body_in (table_of file) 0) (drop (body_in (table_of file) 0) bytes) ≡ ok r)
    × (r.0 ≡ file.bodies) × (body_in (table_of file) 0 ≤ length bytes)
read_bodies bytes file e =
    let o = read_opened bytes file e in
    let p = first_body bytes file o.0 o.1 in (
      o.0.result,
      subst (λ a. bodies (length bytes) file.constructors file.functions file.functions a (drop a bytes) ≡ ok o.0.result) (sym p) o.0.reads,
      o.0.gives,
      omega (arith, p, o.0.inside),
    )
