-- What is read from the front of an image is what has a spelling there.
use Rattle.std.proofs.Common.{◌≡◌, ℕ, ◌+◌, ◌-◌, ◌<◌, ◌≤◌, false, List, [], ◌∷◌, ◌++◌, length, take, drop, get_or, Option, Some, None, Err, refl, sym, ap, subst, ◌∙◌, drop-cons, add-one, arith}
use Rattle.std.specs.Prelude.{IsTrue}
use Rattle.std.proofs.lemmas.Bool.{lt-ltb, le-ltb}
use Rattle.std.proofs.lemmas.List.{length-append, length-take, length-drop, append-nil, drop_all}
use Rattle.iseq_types.specs.Index.{AreIndexRows}
use Rattle.iseq_types.specs.declared.sequences.Sequence.{Sequence}
use Rattle.iseq_dump.specs.declared.fault.ReadError.{ReadError}
use Rattle.iseq_dump.specs.declared.fault.ReadError.TheVariants.{Memory, NotSpelled}
use Rattle.iseq_dump.specs.declared.head.Entry.{Entry}
use Rattle.iseq_dump.specs.declared.head.Head.{Head}
use Rattle.iseq_dump.specs.Dump.{head_bytes, IsHead, rows_of}
use Rattle.iseq_dump.specs.Reading.{◌▷◌, Fails, ReadsIt, body_at, head_at, whole_at, bodies_at}
use Rattle.iseq_dump.proofs.Exact.{found, found_is, Exact}
use Rattle.iseq_dump.proofs.Parts.{nothing}
use Rattle.iseq_dump.proofs.Whole.{IsAnyHead, head_exact}
use Rattle.iseq_dump.proofs.Indexes.{IsTiled}
use Rattle.iseq_dump.proofs.Loops.{with_front, regroup}

-- ---- any part

-- where reading gives nothing, nothing has a spelling
pub none_spelled : {X : Type 0} (F : X → Type 0) (f : X → List ℕ) (a : List ℕ → Option (X × List ℕ)) → Exact F f a → (old : List ℕ) → a old ≡ None → (x : X) (rest : List ℕ) → F x → old ≡ f x ++ rest → ⊥
none_spelled F f a p old none x rest fits e = nothing x rest (sym none ∙ (ap a e ∙ p.again x rest fits))

-- what has a spelling is what reading gives
pub spelled_is : {X : Type 0} (F : X → Type 0) (f : X → List ℕ) (a : List ℕ → Option (X × List ℕ)) → Exact F f a → (old : List ℕ) (y : X) (new : List ℕ) → a old ≡ found y new → (x : X) (rest : List ℕ) → F x → old ≡ f x ++ rest → (y ≡ x) × (new ≡ rest)
spelled_is F f a p old y new given x rest fits e = found_is y x new rest (sym given ∙ (ap a e ∙ p.again x rest fits))

-- ---- the header

pub any_of : (h : Head) → IsHead h → IsAnyHead h
any_of h fits = record { path = fits.path; entries = fits.entries }

pub head_fails : (e : ReadError) (old new : List ℕ) → Fails e (head_at old) → ReadsIt {X = Head} IsHead head_bytes old (Err e) new
head_fails Memory old new h = tt
head_fails NotSpelled old new h = λ x rest fits e. none_spelled IsAnyHead head_bytes head_at head_exact old h x rest (any_of x fits) e

pub head_shorter : (old : List ℕ) (h : Head) (new : List ℕ) → head_at old ≡ found h new → length old ≡ length (head_bytes h) + length new
head_shorter old h new e = ap length (head_exact.takes old h new e).0 ∙ length-append (head_bytes h) new

pub head_given : (old : List ℕ) (h : Head) (new : List ℕ) (place : ℕ) → head_at old ≡ found h new → place ≡ length old - length new → AreIndexRows (rows_of h.entries) → IsTiled place h.entries → IsHead h × (old ≡ head_bytes h ++ new)
head_given old h new place e p rows tiled =
    let taken = head_exact.takes old h new e in
    let len = head_shorter old h new e in
    let same : place ≡ length (head_bytes h) = omega (arith, len, p) in
    let tiles = subst (λ (n : ℕ). IsTiled n h.entries) same tiled in
    (record { path = taken.1.path; entries = taken.1.entries; rows = rows; tiled = tiles.0; ends = tiles.1 }, taken.0)

pub head_refused : (old : List ℕ) (h : Head) (new : List ℕ) (place : ℕ) → head_at old ≡ found h new → place ≡ length old - length new → (AreIndexRows (rows_of h.entries) → IsTiled place h.entries → ⊥) → (x : Head) (rest : List ℕ) → IsHead x → old ≡ head_bytes x ++ rest → ⊥
head_refused old h new place e p refused x rest fits spelled =
    let is = spelled_is IsAnyHead head_bytes head_at head_exact old h new e x rest (any_of x fits) spelled in
    let len = head_shorter old h new e in
    let same : length (head_bytes h) ≡ place = omega (arith, len, p) in
    refused (subst (λ (y : Head). AreIndexRows (rows_of y.entries)) (sym is.0) fits.rows)
    (subst (λ (n : ℕ). IsTiled n h.entries) same (subst (λ (y : Head). IsTiled (length (head_bytes y)) y.entries) (sym is.0) (fits.tiled, fits.ends)))

pub tiled_again : (place other : ℕ) (entries others : List Entry) → place ≡ other → others ≡ entries → IsTiled place others → IsTiled other entries
tiled_again place other entries others e f h = subst (λ (n : ℕ). IsTiled n entries) e (subst (λ (es : List Entry). IsTiled place es) f h)

pub false_is : IsTrue false → ⊥
false_is e = cc

-- ---- the bodies, one behind the other, as a loop reads them

cons_at : (entries : List Entry) (i : ℕ) (d : Entry) → i < length entries → drop i entries ≡ get_or entries i d ∷ drop (i + 1) entries
cons_at entries i d lt = rw (add-one, drop-cons entries i d) refl

-- the first of some bodies
pub first_at : (e : Entry) (es : List Entry) (bytes : List ℕ) → e.length ≤ length bytes → bodies_at (e ∷ es) bytes ≡ (whole_at body_at (take e.length bytes) ▷ λ body. bodies_at es (drop e.length bytes) ▷ λ bodies. found (body ∷ bodies.0) bodies.1)
unfolding bodies_at
first_at e es bytes le = rw (le-ltb (length bytes) e.length le) refl

short_at : (e : Entry) (es : List Entry) (bytes : List ℕ) → length bytes < e.length → bodies_at (e ∷ es) bytes ≡ None
unfolding bodies_at
short_at e es bytes lt = rw (lt-ltb (length bytes) e.length lt) refl

pub bodies_short : (front : List Sequence) (entries : List Entry) (i : ℕ) (d : Entry) (bytes : List ℕ) (whole : Option (List Sequence × List ℕ)) → i < length entries → length bytes < (get_or entries i d).length → with_front front (bodies_at (drop i entries) bytes) ≡ whole → whole ≡ None
bodies_short front entries i d bytes whole lt short so_far =
    let none : bodies_at (drop i entries) bytes ≡ None = ap (λ (es : List Entry). bodies_at es bytes) (cons_at entries i d lt) ∙ short_at (get_or entries i d) (drop (i + 1) entries) bytes short in
    sym so_far ∙ ap (with_front front) none

pub bodies_fail : (e : ReadError) (front : List Sequence) (entries : List Entry) (i : ℕ) (d : Entry) (bytes : List ℕ) (whole : Option (List Sequence × List ℕ)) → i < length entries → (get_or entries i d).length ≤ length bytes → Fails e (whole_at body_at (take (get_or entries i d).length bytes)) → with_front front (bodies_at (drop i entries) bytes) ≡ whole → Fails e whole
bodies_fail Memory front entries i d bytes whole lt le h so_far = tt
bodies_fail NotSpelled front entries i d bytes whole lt le h so_far =
    let e = get_or entries i d in
    let others = drop (i + 1) entries in
    let more : Sequence → Option (List Sequence × List ℕ) = λ body. bodies_at others (drop e.length bytes) ▷ λ bodies. found (body ∷ bodies.0) bodies.1 in
    let none : bodies_at (drop i entries) bytes ≡ None = ap (λ (es : List Entry). bodies_at es bytes) (cons_at entries i d lt) ∙ (first_at e others bytes le ∙ ap (λ (o : Option Sequence). o ▷ more) h) in
    sym so_far ∙ ap (with_front front) none

pub bodies_go_on : (front : List Sequence) (entries : List Entry) (i : ℕ) (d : Entry) (bytes after : List ℕ) (body : Sequence) (whole : Option (List Sequence × List ℕ)) → i < length entries → (get_or entries i d).length ≤ length bytes
    → after ≡ drop (get_or entries i d).length bytes → whole_at body_at (take (get_or entries i d).length bytes) ≡ Some body → with_front front (bodies_at (drop i entries) bytes) ≡ whole → with_front (front ++ body ∷ []) (bodies_at (drop (i + 1) entries) after) ≡ whole
bodies_go_on front entries i d bytes after body whole lt le rest h so_far =
    let e = get_or entries i d in
    let others = drop (i + 1) entries in
    let more : Sequence → Option (List Sequence × List ℕ) = λ b. bodies_at others (drop e.length bytes) ▷ λ bodies. found (b ∷ bodies.0) bodies.1 in
    let one : bodies_at (drop i entries) bytes ≡ more body = ap (λ (es : List Entry). bodies_at es bytes) (cons_at entries i d lt) ∙ (first_at e others bytes le ∙ ap (λ (o : Option Sequence). o ▷ more) h) in
    ap (λ (r : List ℕ). with_front (front ++ body ∷ []) (bodies_at others r)) rest ∙ (sym (regroup front body (bodies_at others (drop e.length bytes))) ∙ (sym (ap (with_front front) one) ∙ so_far))

pub bodies_done : (front : List Sequence) (entries : List Entry) (i : ℕ) (bytes : List ℕ) (whole : Option (List Sequence × List ℕ)) → length entries ≤ i → with_front front (bodies_at (drop i entries) bytes) ≡ whole → whole ≡ Some (front, bytes)
unfolding bodies_at
bodies_done front entries i bytes whole le so_far =
    sym so_far ∙ rw (drop_all i entries le) (ap (λ (bs : List Sequence). Some (bs, bytes)) (append-nil front))

pub split_parts : (bytes front rest : List ℕ) (n : ℕ) → n ≤ length bytes → front ≡ take n bytes → rest ≡ drop n bytes → length front + length rest ≡ length bytes
split_parts bytes front rest n le e f = rw (e, f) (omega (arith, length-take n bytes, length-drop n bytes))
