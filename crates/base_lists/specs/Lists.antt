-- Lists by their elements, tests over lists, and an array's places filled up with a fixed element.
use Rattle.std.specs.Prelude.{ℕ, zero, suc, ◌+◌, Bool, true, false, not, ◌&&◌, ◌||◌, List, [], ◌∷◌, ◌++◌, eqb, get_or}

-- f 0, f 1, .. f (n - 1)
abbrev pub build : {A : Type 0} → ℕ → (ℕ → A) → List A
build zero f = []
build (suc n) f = f 0 ∷ build n (λ (k : ℕ). f (suc k))

-- n places: the elements of the list, and then d
abbrev pub pad : {A : Type 0} → ℕ → A → List A → List A
pad zero d l = []
pad (suc n) d [] = d ∷ pad n d []
pad (suc n) d (x ∷ l) = x ∷ pad n d l

abbrev pub all : {A : Type 0} → (A → Bool) → List A → Bool
all f [] = true
all f (x ∷ l) = f x && all f l

abbrev pub any : {A : Type 0} → (A → Bool) → List A → Bool
any f [] = false
any f (x ∷ l) = f x || any f l

abbrev pub member : ℕ → List ℕ → Bool
member k l = any (λ (x : ℕ). eqb k x) l

-- no element of the list is one of those that d knows, and none stands in the list twice
abbrev pub fresh : (ℕ → Bool) → List ℕ → Bool
fresh d [] = true
fresh d (k ∷ l) = not (d k) && fresh (λ (x : ℕ). eqb x k || d x) l

-- the lists that f gives, one after the other
abbrev pub chain : {A B : Type 0} → (A → List B) → List A → List B
chain f [] = []
chain f (x ∷ l) = f x ++ chain f l

abbrev pub sum : List ℕ → ℕ
sum [] = 0
sum (n ∷ l) = n + sum l

-- how often k stands in the list
abbrev pub bit : Bool → ℕ
bit true = 1
bit false = 0

abbrev pub times : ℕ → List ℕ → ℕ
times k [] = 0
times k (x ∷ l) = bit (eqb k x) + times k l

-- a set of small numbers, kept as a flag for each
abbrev pub has : List Bool → ℕ → Bool
has s k = get_or s k false
