-- What holds of a decoded value, where there is one.
use Rattle.std.proofs.Common.{Bool, true, false, inl, inr, List, [], ◌∷◌, ◌++◌, map, Option, Some, None, option_map, option_and_then, if◌then◌else◌, sym, subst}
use Rattle.std.specs.Prelude.{⊤, IfSome}
use Rattle.std.specs.List.{flat_map}
use Rattle.std.specs.Option.{option_map_or, option_or}
use Rattle.serde_json.specs.Data.{Data, Items, no_items, item}
use Rattle.wt_decode.specs.Json.{each_of}
use Rattle.wt_env.specs.Among.{Among}

-- ---- options

pub any_value : {A : Type 0} (o : Option A) → IfSome o (λ a. ⊤)
any_value None = tt
any_value (Some a) = tt

pub mapped : {A B : Type 0} (P : A → Type 0) (Q : B → Type 0) (f : A → B) → ((a : A) → P a → Q (f a)) → (o : Option A) → IfSome o P → IfSome (option_map f o) Q
mapped P Q f step None holds = tt
mapped P Q f step (Some a) holds = step a holds

pub weakened : {A : Type 0} (P Q : A → Type 0) → ((a : A) → P a → Q a) → (o : Option A) → IfSome o P → IfSome o Q
weakened P Q step None holds = tt
weakened P Q step (Some a) holds = step a holds

pub chained : {A B : Type 0} (P : A → Type 0) (Q : B → Type 0) (f : A → Option B) → ((a : A) → P a → IfSome (f a) Q) → (o : Option A) → IfSome o P → IfSome (option_and_then f o) Q
chained P Q f step None holds = tt
chained P Q f step (Some a) holds = step a holds

pub either : {A : Type 0} (P : A → Type 0) (test : Bool) (x y : Option A) → IfSome x P → IfSome y P → IfSome (if test then x else y) P
either P true x y first second = first
either P false x y first second = second

pub found_or : {A B : Type 0} (P : A → Type 0) (Q : B → Type 0) (f : A → Option B) → ((a : A) → P a → IfSome (f a) Q) → (o : Option A) → IfSome o P → (otherwise : Option B) → IfSome otherwise Q
    → IfSome (option_map_or f o otherwise) Q
found_or P Q f step None holds otherwise second = second
found_or P Q f step (Some a) holds otherwise second = step a holds

pub first_or : {A : Type 0} (P : A → Type 0) (x y : Option A) → IfSome x P → IfSome y P → IfSome (option_or x y) P
first_or P None y first second = second
first_or P (Some a) y first second = first

-- ---- lists

-- each of a list is so
abbrev pub EachIs : {A : Type 0} → (A → Type 0) → List A → Type 0
EachIs P [] = ⊤
EachIs P (x ∷ xs) = P x × EachIs P xs

pub each_among : {A : Type 0} (P : A → Type 0) (xs : List A) (x : A) → EachIs P xs → Among x xs → P x
each_among P [] x each at = absurd at
each_among P (y ∷ ys) x each (inl same) = subst P (sym same) each.0
each_among P (y ∷ ys) x each (inr later) = each_among P ys x each.1 later

pub each_append : {A : Type 0} (P : A → Type 0) (xs ys : List A) → EachIs P xs → EachIs P ys → EachIs P (xs ++ ys)
each_append P [] ys first second = second
each_append P (x ∷ xs) ys first second = (first.0, each_append P xs ys first.1 second)

pub each_flat : {A B : Type 0} (P : B → Type 0) (f : A → List B) (xs : List A) → EachIs (λ x. EachIs P (f x)) xs → EachIs P (flat_map f xs)
each_flat P f [] each = tt
each_flat P f (x ∷ xs) each = each_append P (f x) (flat_map f xs) each.0 (each_flat P f xs each.1)

pub each_mapped : {A B : Type 0} (P : B → Type 0) (f : A → B) (xs : List A) → EachIs (λ x. P (f x)) xs → EachIs P (map f xs)
each_mapped P f [] each = tt
each_mapped P f (x ∷ xs) each = (each.0, each_mapped P f xs each.1)

-- what items stand for, where each item stands for something that is so
pub each_read : {A : Type 0} (P : A → Type 0) (read : Data → Option A) → ((d : Data) → IfSome (read d) P) → (ds : Items) → IfSome (each_of read ds) (EachIs P)
each_read P read is no_items = tt
each_read P read is (item d ds) =
    chained P (EachIs P) (λ x. option_map (λ xs. x ∷ xs) (each_of read ds)) (λ x first. mapped (EachIs P) (EachIs P) (λ xs. x ∷ xs) (λ xs others. (first, others)) (each_of read ds) (each_read P read is ds)) (read d) (is d)
