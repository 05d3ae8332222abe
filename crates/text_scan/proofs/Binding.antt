-- Readers one after the other: how they are bracketed does not matter, and readers that agree may stand for each other.
-- Assumes nothing.
use Prim.Native.Nat.{ℕ}
use mathlib.Core.Path.{◌≡◌, refl}
use mathlib.Core.List.{List}
use Rattle.text_scan.specs.Reader.{Res, got, lost, Reader, bind}

pub same_bind : {A B C : Type 0} (x : Res A) (Q : A → Reader B) (R : B → Reader C) → bind (bind x Q) R ≡ bind x (λ (a : A) (t : List ℕ). bind (Q a t) R)
same_bind (got a t) Q R = refl
same_bind (lost t) Q R = refl

pub bind_same : {A B : Type 0} (x : Res A) {F G : A → Reader B} → ((a : A) (t : List ℕ) → F a t ≡ G a t) → bind x F ≡ bind x G
bind_same (got a t) h = h a t
bind_same (lost t) h = refl
