-- A text has at most one token more than bytes.
use Rattle.std.proofs.Common.{ℕ, suc, ◌≤◌, Bool, true, false, List, [], ◌∷◌, length, arith}
use Rattle.json.specs.Token.{Token, begin_object, end_object, begin_array, end_array, key, string, number, boolean, null, bad}
use Rattle.json.specs.Lex.{Lexeme, token, comma, colon, Class, quote, backslash, operator, space, other, class, Mode, between, in_word, in_string, in_escape, lex_byte, lex}
use Rattle.json.specs.Lex.{Place, fresh, after_value, after_comma, after_key, begins_colon, may_begin, may_close, if_allowed, place_token, punctuate, tokens}

-- a byte begins one lexeme at most
one_byte : (mode : Mode) (c : Class) (x : ℕ) (xs : List ℕ) (next : Mode → List Lexeme) (n : ℕ) → ((m : Mode) → length (next m) ≤ n) → length (lex_byte mode c x xs next) ≤ suc n
one_byte between quote x xs next n few = omega (arith, few in_string)
one_byte between backslash x xs next n few = omega (arith, few in_word)
one_byte between operator x xs next n few = omega (arith, few between)
one_byte between space x xs next n few = omega (arith, few between)
one_byte between other x xs next n few = omega (arith, few in_word)
one_byte in_word quote x xs next n few = omega (arith, few in_word)
one_byte in_word backslash x xs next n few = omega (arith, few in_word)
one_byte in_word operator x xs next n few = omega (arith, few between)
one_byte in_word space x xs next n few = omega (arith, few between)
one_byte in_word other x xs next n few = omega (arith, few in_word)
one_byte in_string quote x xs next n few = omega (arith, few between)
one_byte in_string backslash x xs next n few = omega (arith, few in_escape)
one_byte in_string operator x xs next n few = omega (arith, few in_string)
one_byte in_string space x xs next n few = omega (arith, few in_string)
one_byte in_string other x xs next n few = omega (arith, few in_string)
one_byte in_escape c x xs next n few = omega (arith, few in_string)

few_lexemes : (mode : Mode) (xs : List ℕ) → length (lex mode xs) ≤ length xs
unfolding lex
few_lexemes mode [] = omega arith
few_lexemes mode (x ∷ xs) = one_byte mode (class x) x xs (λ m. lex m xs) (length xs) (λ m. few_lexemes m xs)

-- a token where it is allowed, or the fault that ends all
allowed : (is_allowed : Bool) (t : Token) (next : Place → List Token) (place : Place) (n : ℕ) → ((p : Place) → length (next p) ≤ suc n) → length (if_allowed is_allowed t next place) ≤ suc (suc n)
allowed true t next place n few = omega (arith, few place)
allowed false t next place n few = omega arith

one_token : (p : Place) (t : Token) (before_colon : Bool) (next : Place → List Token) (n : ℕ) → ((place : Place) → length (next place) ≤ suc n) → length (place_token p t before_colon next) ≤ suc (suc n)
one_token p begin_object b next n few = allowed (may_begin p) begin_object next fresh n few
one_token p end_object b next n few = allowed (may_close p) end_object next after_value n few
one_token p begin_array b next n few = allowed (may_begin p) begin_array next fresh n few
one_token p end_array b next n few = allowed (may_close p) end_array next after_value n few
one_token p (key s) b next n few = omega arith
one_token p (string s) true next n few = allowed (may_begin p) (key s) next after_key n few
one_token p (string s) false next n few = allowed (may_begin p) (string s) next after_value n few
one_token p (number s) b next n few = allowed (may_begin p) (number s) next after_value n few
one_token p (boolean v) b next n few = allowed (may_begin p) (boolean v) next after_value n few
one_token p null b next n few = allowed (may_begin p) null next after_value n few
one_token p bad b next n few = omega arith

few_tokens : (p : Place) (ls : List Lexeme) → length (punctuate p ls) ≤ suc (length ls)
unfolding punctuate
few_tokens fresh [] = omega arith
few_tokens after_value [] = omega arith
few_tokens after_comma [] = omega arith
few_tokens after_key [] = omega arith
few_tokens p (token t ∷ ls) = one_token p t (begins_colon ls) (λ next. punctuate next ls) (length ls) (λ next. few_tokens next ls)
few_tokens fresh (comma ∷ ls) = omega arith
few_tokens after_value (comma ∷ ls) = omega (arith, few_tokens after_comma ls)
few_tokens after_comma (comma ∷ ls) = omega arith
few_tokens after_key (comma ∷ ls) = omega arith
few_tokens fresh (colon ∷ ls) = omega arith
few_tokens after_value (colon ∷ ls) = omega arith
few_tokens after_comma (colon ∷ ls) = omega arith
few_tokens after_key (colon ∷ ls) = omega (arith, few_tokens fresh ls)

pub tokens_within : (bytes : List ℕ) → length (tokens bytes) ≤ suc (length bytes)
tokens_within bytes = omega (arith, few_tokens fresh (lex between bytes), few_lexemes between bytes)
