-- Tokens that are pushed one by one.
use Rattle.std.proofs.Common.{◌≡◌, List, [], ◌∷◌, ◌++◌, Bool, true, false, ◌&&◌, refl, sym, ap, ◌∙◌, reverse}
use Rattle.std.proofs.lemmas.Grind.{reverse_onto}
use Rattle.ruby_lexer.specs.declared.token.Token.{Token}
use Rattle.ruby_lexer.specs.Cut.{closes, with_blank, begins_with_name, has_blank}
use Rattle.ruby_lexer.specs.declared.gather.PendingToken.{PendingToken}
use Rattle.ruby_lexer.specs.Bytes.{Bytes}
use Rattle.ruby_lexer.specs.Pieces.{Tok, tok, Toks, none, more, seen, seen_all}
use Rattle.ruby_lexer.specs.Settle.{put_raw, settle, onto, tok_with_blank, tok_name, closes_before}
use Rattle.ruby_lexer.proofs.Lists.{and_left, and_right}

pub settle_push : (text : Bytes) (xs : List PendingToken) (x : PendingToken) (ts : Toks) → settle text (xs ++ x ∷ []) ts ≡ settle text xs (put_raw text x.is_line (seen x.token) ts)
settle_push text [] x ts = refl
settle_push text (y ∷ xs) x ts = ap (put_raw text y.is_line (seen y.token)) (settle_push text xs x ts)

pub onto_push : (xs : List Token) (x : Token) (ts : Toks) → onto (xs ++ x ∷ []) ts ≡ more (seen x) (onto xs ts)
onto_push [] x ts = refl
onto_push (y ∷ xs) x ts = onto_push xs x (more (seen y) ts)

seen_ahead : List Token → Toks → Toks
seen_ahead [] ts = ts
seen_ahead (x ∷ xs) ts = more (seen x) (seen_ahead xs ts)

ahead_all : (xs : List Token) → seen_ahead xs none ≡ seen_all xs
unfolding seen_ahead
ahead_all [] = refl
ahead_all (x ∷ xs) = ap (more (seen x)) (ahead_all xs)

ahead_append : (xs ys : List Token) (ts : Toks) → seen_ahead (xs ++ ys) ts ≡ seen_ahead xs (seen_ahead ys ts)
unfolding seen_ahead
ahead_append [] ys ts = refl
ahead_append (x ∷ xs) ys ts = ap (more (seen x)) (ahead_append xs ys ts)

ahead_onto : (xs : List Token) (ts : Toks) → seen_ahead (reverse xs) ts ≡ onto xs ts
unfolding seen_ahead
ahead_onto [] ts = refl
ahead_onto (x ∷ xs) ts =
    let e : reverse (x ∷ xs) ≡ reverse xs ++ x ∷ [] = reverse_onto xs x [] in
    ap (λ (ys : List Token). seen_ahead ys ts) e ∙ ahead_append (reverse xs) (x ∷ []) ts ∙ ahead_onto xs (more (seen x) ts)

pub onto_reversed : (xs : List Token) → seen_all (reverse xs) ≡ onto xs none
onto_reversed xs = sym (ahead_all (reverse xs)) ∙ ahead_onto xs none

pub closes_blank : (text : Bytes) (b : Bool) (ts : Toks) → closes text (with_blank b ts) ≡ closes text ts
closes_blank text b none = refl
closes_blank text b (more (tok k from to line c) ts) = refl

pub name_blank : (b : Bool) (ts : Toks) → begins_with_name (with_blank b ts) ≡ begins_with_name ts
name_blank b none = refl
name_blank b (more (tok k from to line c) ts) = refl

pub blank_tok : (b : Bool) (t : Tok) (ts : Toks) → with_blank b (more t ts) ≡ more (tok_with_blank b t) ts
blank_tok b (tok k from to line c) ts = refl

pub name_first : (t : Tok) (ts : Toks) → begins_with_name (more t ts) ≡ tok_name t
name_first (tok k from to line b) ts = refl

pub settle_none : (text : Bytes) (xs : List PendingToken) (x : PendingToken) (ts : Toks) → (x.is_line && closes text ts) ≡ true → settle text (xs ++ x ∷ []) ts ≡ settle text xs (with_blank (has_blank (seen x.token)) ts)
settle_none text xs x ts h =
    let line : x.is_line ≡ true = and_left x.is_line (closes text ts) h in
    let shut : closes text ts ≡ true = and_right x.is_line (closes text ts) h in
    settle_push text xs x ts ∙ ap (settle text xs) (ap (λ (b : Bool). put_raw text b (seen x.token) ts) line ∙ rw shut)

kept : (text : Bytes) (b : Bool) (t : Tok) (ts : Toks) → (b && closes text ts) ≡ false → put_raw text b t ts ≡ more t ts
kept text true t ts h = rw h
kept text false t ts h = refl

pub settle_kept : (text : Bytes) (xs : List PendingToken) (x : PendingToken) (ts : Toks) → (x.is_line && closes text ts) ≡ false → settle text (xs ++ x ∷ []) ts ≡ settle text xs (more (seen x.token) ts)
settle_kept text xs x ts h = settle_push text xs x ts ∙ ap (settle text xs) (kept text x.is_line (seen x.token) ts h)

pub closes_more : (text : Bytes) (t : Tok) (ts : Toks) → closes text (more t ts) ≡ closes_before text t (begins_with_name ts)
closes_more text (tok k from to line b) ts = refl
