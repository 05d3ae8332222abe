-- What any order of firings keeps: each operator has done what it does on its own to what it has taken.
-- Assumes nothing.
use mathlib.Core.Path.{◌≡◌, refl, ap, sym, ◌∙◌, subst}
use mathlib.Core.Bool.{Bool, true, false, cond}
use mathlib.Core.Option.{Option, some, none}
use mathlib.Core.Logic.{◌≢◌}
use mathlib.Core.List.{List, [], ◌∷◌, ◌++◌, head?, append-nil}
use Prim.Native.Nat.{ℕ, zero, suc, ◌+◌, ◌≤◌, ◌<◌}
use native.Mathlib.Omega.{arith}
use native.Mathlib.Nat.{zero-add}
use lib.ListN.{length, length-append}
use lib.Dec.{eqb, ltb, lt→ltb}
use borrow.Author.Tests.{eqb-true, eqb-false, eq-eqb}
use Rattle.base_lists.proofs.Tests.{false_of}
use Rattle.order_theory.proofs.Runs.{Run, stop, fire, Rest}
use Rattle.order_theory.proofs.Model.{T_true, State, Op, Vars, Agree, Local, Can, push, pop, after, fire_can, can_fire, room, fits, step, step_at}
use Rattle.order_theory.proofs.Trace.{mark, shift, tv, tput, ttake, tv_snoc, tput_snoc, ttake_snoc, Ends, one_trace, OpSol}

-- a calm sheet, as far as the theory sees it
pub record Sheet (Item Val : Type 0) : Type 0 where
  pub reader : ℕ → Option ℕ
  pub definer : ℕ → Option ℕ
  pub op : ℕ → Op Item Val
  pub loc : (i : ℕ) → Local Item Val (op i)
  pub calm : (i j : ℕ) → eqb i j ≡ false → (k : ℕ) → (op i).own k ≡ true → (op j).own k ≡ false
  pub outs_def : (i q : ℕ) → (op i).outs q ≡ true → definer q ≡ some i
  pub def_outs : (q i : ℕ) → definer q ≡ some i → (op i).outs q ≡ true
  pub width : ℕ
  pub read_lt : (p i : ℕ) → reader p ≡ some i → p < width
  pub size : ℕ
  pub def_lt : (q i : ℕ) → definer q ≡ some i → i < size
  pub own_lt : (i k : ℕ) → (op i).own k ≡ true → i < size
  pub sel_in : (i : ℕ) → i < size → (v : Vars Item Val) → reader ((op i).sel v) ≡ some i
  pub earlier : (p i j : ℕ) → reader p ≡ some i → definer p ≡ some j → j < i

unfoldable pub sum : ℕ → (ℕ → ℕ) → ℕ
sum zero f = 0
sum (suc n) f = f n + sum n f

abbrev pub weight : Option ℕ → ℕ → ℕ
weight none k = 0
weight (some i) k = k

pub lt_of : (n p : ℕ) → p < suc n → (n ≡ p → ⊥) → p < n
lt_of n p l f = let g : n ≢ p = f in omega arith

pub sum_zero : (n : ℕ) → 0 ≡ sum n (λ p. 0)
unfolding sum
sum_zero zero = refl
sum_zero (suc n) = sum_zero n ∙ omega arith

pub sum_le : (n : ℕ) (f g : ℕ → ℕ) → ((p : ℕ) → f p ≤ g p) → sum n f ≤ sum n g
unfolding sum
sum_le zero f g h = omega arith
sum_le (suc n) f g h = omega (arith, h n, sum_le n f g h)

sum_off : {Item : Type 0} (n p : ℕ) (h : ℕ → List Item) (x : Item) → n ≤ p
    → sum n (λ k. length (push (mark (eqb k p) x) (h k))) ≡ sum n (λ k. length (h k))
unfolding sum
sum_off zero p h x l = refl
sum_off (suc n) p h x l =
    rw (false_of (eqb n p) (λ e. omega (arith, eqb-true n p e))) (ap (λ (m : ℕ). length (h n) + m) (sum_off n p h x (omega arith)))

sum_bump : {Item : Type 0} (n p : ℕ) (h : ℕ → List Item) (x : Item) → p < n
    → sum n (λ k. length (push (mark (eqb k p) x) (h k))) ≡ suc (sum n (λ k. length (h k)))
unfolding sum
sum_bump zero p h x l = absurd (omega arith)
sum_bump (suc n) p h x l = go (eqb n p) refl (λ k. sum_bump n p h x k)
  where
    go : (b : Bool) → eqb n p ≡ b → (p < n → sum n (λ k. length (push (mark (eqb k p) x) (h k))) ≡ suc (sum n (λ k. length (h k))))
        → length (push (mark b x) (h n)) + sum n (λ k. length (push (mark (eqb k p) x) (h k))) ≡ suc
        (length (h n) + sum n (λ k. length (h k)))
    go true e ih = rw (length-append (h n) (x ∷ [])) (omega (arith, sum_off n p h x (omega (arith, eqb-true n p e))))
    go false e ih = omega (arith, ih (lt_of n p l (eqb-false n p e)))

len_mark : {Item : Type 0} (f : Bool) (x : Item) (h l : List Item) → (f ≡ true → head? l ≡ some x)
    → length (push (mark f x) h) ≤ length (h ++ l)
len_mark true x h [] e = let k = e refl in let z : ◌≡◌ {A = ℕ} 0 1 = cc in absurd (omega arith)
len_mark true x h (y ∷ l) e = simp length-append (omega arith)
len_mark false x h l e = simp length-append (omega arith)

room_all : {Item : Type 0} (bd n : ℕ) (p : ℕ → Option Item) (q : ℕ → List Item) → ((k : ℕ) → fits bd (p k) (q k) ≡ true)
    → room bd n p q ≡ true
unfolding room
room_all bd zero p q h = refl
room_all bd (suc n) p q h = rw (h n) (room_all bd n p q h)

module _ {Item Val : Type 0} (S : Sheet Item Val) (feed : ℕ → List Item) (v₀ : Vars Item Val) where
  -- the state s, after m firings: what has been taken from each queue, and what each operator has taken in order
  pub record Inv (m : ℕ) (s : State Item Val) : Type 0 where
    pub had : ℕ → List Item
    pub count : m ≡ sum S.width (λ p. length (had p))
    pub tr : ℕ → List Item
    pub fixed : (q : ℕ) → S.definer q ≡ none → had q ++ s.queue q ≡ feed q
    pub takes : (p i : ℕ) → S.reader p ≡ some i → had p ≡ ttake (S.op i) v₀ p (tr i)
    pub unread : (p : ℕ) → S.reader p ≡ none → had p ≡ []
    pub puts : (q i : ℕ) → S.definer q ≡ some i → had q ++ s.queue q ≡ tput (S.op i) v₀ q (tr i)
    pub vars : (k i : ℕ) → (S.op i).own k ≡ true → s.var k ≡ tv (S.op i) v₀ (tr i) k
    pub idle : (k : ℕ) → ((i : ℕ) → (S.op i).own k ≡ false) → s.var k ≡ v₀ k

  -- what the queues have ever held, and the variables, once nothing more can be done
  pub record Sol (H : ℕ → List Item) (U : Vars Item Val) : Type 0 where
    pub fixed : (q : ℕ) → q < S.width → S.definer q ≡ none → H q ≡ feed q
    pub each : (i : ℕ) → i < S.size → OpSol (S.op i) (λ p. S.reader p ≡ some i) v₀ H U

  module _ (bd n : ℕ) where
    -- one firing
    keep : (m : ℕ) (s : State Item Val) (p i : ℕ) (x : Item) → S.reader p ≡ some i → Can bd n (S.op i) p x s → Inv m s
        → Inv (suc m) (after (S.op i) p x s)
    keep m s p i x hr c v = record {
      had = λ k. push (mark (eqb k p) x) (v.had k);
      count = ap suc v.count ∙ sym (sum_bump S.width p v.had x (S.read_lt p i hr));
      tr = λ j. cond (eqb j i) (v.tr i ++ (x ∷ [])) (v.tr j);
      fixed = λ q hd. moved q ∙ rw (quiet q hd) (v.fixed q hd);
      takes = λ k j hk. takes k j hk (eqb j i) refl;
      unread = λ k hk. rw (other k hk) (v.unread k hk);
      puts = λ q j hd. moved q ∙ puts q j hd (eqb j i) refl;
      vars = λ k j ho. vars k j ho (eqb j i) refl;
      idle = λ k h. (S.loc i).next_frame x s.var k (h i) ∙ v.idle k h;
    }
      where
        o : Op Item Val
        o = S.op i

        w : Vars Item Val
        w = tv o v₀ (v.tr i)

        same : Agree Item Val o s.var w
        same k h = v.vars k i h

        here : o.sel w ≡ p
        here = sym ((S.loc i).sel_local s.var w same) ∙ eqb-true (o.sel s.var) p c.at

        moved : (q : ℕ) → push (mark (eqb q p) x) (v.had q) ++ push (o.puts x s.var q) (pop (eqb q p) (s.queue q)) ≡ push
            (o.puts x s.var q) (v.had q ++ s.queue q)
        moved q = shift (eqb q p) (o.puts x s.var q) (v.had q) (s.queue q) x (λ e. rw (eqb-true q p e) c.head)

        elsewhere : (q : ℕ) → (S.definer q ≡ some i → ⊥) → o.puts x s.var q ≡ none
        elsewhere q f = (S.loc i).puts_out x s.var q (false_of (o.outs q) (λ e. f (S.outs_def i q e)))

        quiet : (q : ℕ) → S.definer q ≡ none → o.puts x s.var q ≡ none
        quiet q hd = elsewhere q (λ e. let z : ◌≡◌ {A = ℕ} 0 1 = cc in omega arith)

        other : (k : ℕ) → S.reader k ≡ none → eqb k p ≡ false
        other k hk = false_of (eqb k p) (λ e. let h = eqb-true k p e in let z : ◌≡◌ {A = ℕ} 0 1 = cc in omega arith)

        takes : (k j : ℕ) → S.reader k ≡ some j → (b : Bool) → eqb j i ≡ b
            → push (mark (eqb k p) x) (v.had k) ≡ ttake (S.op j) v₀ k (cond b (v.tr i ++ (x ∷ [])) (v.tr j))
        takes k j hk true e =
            let h = eqb-true j i e in rw (h, ttake_snoc (S.op i) v₀ k (v.tr i) x, here) (ap (push (mark (eqb k p) x)) (v.takes k i (cc)))
        takes k j hk false e =
            let z : eqb k p ≡ false = false_of (eqb k p) (λ h. let k=p = eqb-true k p h in eqb-false j i e (cc)) in rw z (v.takes k j hk)

        puts : (q j : ℕ) → S.definer q ≡ some j → (b : Bool) → eqb j i ≡ b
            → push (o.puts x s.var q) (v.had q ++ s.queue q) ≡ tput (S.op j) v₀ q (cond b (v.tr i ++ (x ∷ [])) (v.tr j))
        puts q j hd true e =
            let h = eqb-true j i e in
            rw (h, tput_snoc (S.op i) v₀ q (v.tr i) x, (S.loc i).puts_local x s.var w same q)
            (ap (push (o.puts x w q)) (v.puts q i (cc)))
        puts q j hd false e = rw (elsewhere q (λ h. eqb-false j i e (cc))) (v.puts q j hd)

        vars : (k j : ℕ) → (S.op j).own k ≡ true → (b : Bool) → eqb j i ≡ b
            → o.next x s.var k ≡ tv (S.op j) v₀ (cond b (v.tr i ++ (x ∷ [])) (v.tr j)) k
        vars k j ho true e =
            let h = eqb-true j i e in rw (h, tv_snoc (S.op i) v₀ (v.tr i) x) ((S.loc i).next_local x s.var w same k (rw h at ho))
        vars k j ho false e = (S.loc i).next_frame x s.var k (S.calm j i e k ho) ∙ v.vars k j ho

    inv_step : (m : ℕ) (s t : State Item Val) (p : ℕ) → step bd n S.reader S.op p s ≡ some t → Inv m s → Inv (suc m) t
    unfolding step
    inv_step m s t p e v = go (S.reader p) refl e
      where
        go : (m' : Option ℕ) → S.reader p ≡ m' → step_at bd n S.reader S.op m' p s ≡ some t → Inv (suc m) t
        go none hm e = let z : ◌≡◌ {A = ℕ} 0 1 = cc in absurd (omega arith)
        go (some i) hm e = let c = fire_can bd n (S.op i) p s t e in rw c.2 (keep m s p i c.0 hm c.1 v)

    pub inv_run : {m : ℕ} {s t : State Item Val} → Run (step bd n S.reader S.op) m s t → (k : ℕ) → Inv k s → Inv (m + k) t
    inv_run stop k v = rw (zero-add k) v
    inv_run (fire {n = m} {s} {t} {u} p e run) k v = subst (λ (j : ℕ). Inv j u) (omega arith) (inv_run run (suc k) (inv_step k s t p e v))

  -- two of them are one
  module _ (H H' : ℕ → List Item) (U U' : Vars Item Val) (a : Sol H U) (b : Sol H' U') where
    same_trace : (m i : ℕ) → i < m → (hs : i < S.size) → (a.each i hs).tr ≡ (b.each i hs).tr
    same_trace zero i h hs = absurd (omega arith)
    same_trace (suc m) i h hs =
        let x = a.each i hs in
        let y = b.each i hs in
        one_trace (S.op i) (λ p. S.reader p ≡ some i) (S.sel_in i hs) v₀ H x.tr y.tr
        x.takes x.ends (λ p r. rw (same_queue p r (λ j hj hsj. same_trace m j hj hsj)) (y.takes p r))
        (y.ends ∙ sym (same_queue ((S.op i).sel (tv (S.op i) v₀ y.tr)) (S.sel_in i hs (tv (S.op i) v₀ y.tr))
        (λ j hj hsj. same_trace m j hj hsj)))
      where
        same_queue : (p : ℕ) → S.reader p ≡ some i → ((j : ℕ) → j < m → (hs : j < S.size) → (a.each j hs).tr ≡ (b.each j hs).tr)
            → H p ≡ H' p
        same_queue p hr ih = go (S.definer p) refl
          where
            go : (o : Option ℕ) → S.definer p ≡ o → H p ≡ H' p
            go none e = a.fixed p (S.read_lt p i hr) e ∙ sym (b.fixed p (S.read_lt p i hr) e)
            go (some j) e =
                let hs = S.def_lt p j e in
                (a.each j hs).puts p (S.def_outs p j e) ∙ ap (tput (S.op j) v₀ p) (ih j (omega (arith, S.earlier p i j hr e)) hs)
                ∙ sym ((b.each j hs).puts p (S.def_outs p j e))

    pub same_history : (q : ℕ) → q < S.width → H q ≡ H' q
    same_history q l = go (S.definer q) refl
      where
        go : (o : Option ℕ) → S.definer q ≡ o → H q ≡ H' q
        go none e = a.fixed q l e ∙ sym (b.fixed q l e)
        go (some j) e =
            let hs = S.def_lt q j e in
            (a.each j hs).puts q (S.def_outs q j e) ∙ ap (tput (S.op j) v₀ q) (same_trace S.size j hs hs)
            ∙ sym ((b.each j hs).puts q (S.def_outs q j e))

    pub same_vars : (k i : ℕ) → (S.op i).own k ≡ true → U k ≡ U' k
    same_vars k i h =
        let hs = S.own_lt i k h in
        (a.each i hs).vars k h ∙ ap (λ (l : List Item). tv (S.op i) v₀ l k) (same_trace S.size i hs hs) ∙ sym ((b.each i hs).vars k h)

  -- worst counts W that hold for each operator on its own, and that a queue of bd items has room for
  pub record Worst (bd : ℕ) (W : ℕ → ℕ) : Type 0 where
    pub fed : (q : ℕ) → S.definer q ≡ none → length (feed q) ≤ W q
    pub grow : (i : ℕ) (xs : List Item) → ((p : ℕ) → S.reader p ≡ some i → length (ttake (S.op i) v₀ p xs) ≤ W p)
        → (q : ℕ) → S.definer q ≡ some i → length (tput (S.op i) v₀ q xs) ≤ W q
    pub small : (q : ℕ) → W q ≤ bd

  -- all that a queue has ever held
  abbrev pub hist : {m : ℕ} (s : State Item Val) → Inv m s → ℕ → List Item
  hist s v q = v.had q ++ s.queue q

  module _ (bd n : ℕ) (W : ℕ → ℕ) (w : Worst bd W) {m : ℕ} (s : State Item Val) (v : Inv m s) where
    had_le : (q : ℕ) → length (v.had q) ≤ length (hist s v q)
    had_le q = rw (length-append (v.had q) (s.queue q)) (omega arith)

    held_le : (q : ℕ) → length (s.queue q) ≤ length (hist s v q)
    held_le q = rw (length-append (v.had q) (s.queue q)) (omega arith)

    hist_le_below : (m q i : ℕ) → i < m → S.definer q ≡ some i → length (hist s v q) ≤ W q
    hist_le_below zero q i h e = absurd (omega arith)
    hist_le_below (suc m) q i h e =
        rw (v.puts q i e) (w.grow i (v.tr i) (λ p hr. each p hr (S.definer p) refl (λ r j hj ej. hist_le_below m r j hj ej)) q e)
      where
        each : (p : ℕ) → S.reader p ≡ some i → (o : Option ℕ) → S.definer p ≡ o
            → ((r j : ℕ) → j < m → S.definer r ≡ some j → length (hist s v r) ≤ W r)
            → length (ttake (S.op i) v₀ p (v.tr i)) ≤ W p
        each p hr none e ih = rw (← (v.takes p i hr)) (omega (arith, had_le p, w.fed p e, ap length (v.fixed p e)))
        each p hr (some j) e ih = rw (← (v.takes p i hr)) (omega (arith, had_le p, ih p j (omega (arith, S.earlier p i j hr e)) e))

    pub hist_le : (q : ℕ) → length (hist s v q) ≤ W q
    hist_le q = go (S.definer q) refl
      where
        go : (o : Option ℕ) → S.definer q ≡ o → length (hist s v q) ≤ W q
        go none e = rw (v.fixed q e) (w.fed q e)
        go (some i) e = hist_le_below (suc i) q i (omega arith) e

    -- an operator with an item before it has room
    roomy : (p i : ℕ) (x : Item) → S.reader p ≡ some i → (S.op i).sel s.var ≡ p → head? (s.queue p) ≡ some x
        → (q : ℕ) → fits bd ((S.op i).puts x s.var q) (s.queue q) ≡ true
    roomy p i x hr hs hh q = go ((S.op i).outs q) refl
      where
        o : Op Item Val
        o = S.op i

        u : Vars Item Val
        u = tv o v₀ (v.tr i)

        same : Agree Item Val o s.var u
        same k h = v.vars k i h

        next : List Item
        next = v.tr i ++ (x ∷ [])

        taken : (r : ℕ) → S.reader r ≡ some i → length (ttake o v₀ r next) ≤ W r
        taken r hr =
            let here : o.sel u ≡ p = sym ((S.loc i).sel_local s.var u same) ∙ hs in
            let l : length (push (mark (eqb r p) x) (v.had r)) ≤ length (hist s v r) = len_mark (eqb r p) x (v.had r) (s.queue r)
            (λ e. rw (eqb-true r p e) hh) in
            let k = hist_le r in
            rw (ttake_snoc o v₀ r (v.tr i) x, ← (v.takes r i hr), here) (omega arith)

        fit : (a : Option Item) → o.puts x u q ≡ a → o.outs q ≡ true → fits bd a (s.queue q) ≡ true
        fit none ea eo = refl
        fit (some y) ea eo =
            let d = S.outs_def i q eo in
            let g : length (push (some y) (tput o v₀ q (v.tr i))) ≤ W q = rw (tput_snoc o v₀ q (v.tr i) x, ea) at
            (w.grow i next taken q d) in
            let g' : length (hist s v q ++ (y ∷ [])) ≤ W q = rw (← (v.puts q i d)) at g in
            T_true (ltb (length (s.queue q)) bd) (lt→ltb (length (s.queue q)) bd
            (omega (arith, held_le q, w.small q, simp length-append at g')))

        go : (b : Bool) → o.outs q ≡ b → fits bd (o.puts x s.var q) (s.queue q) ≡ true
        go true e = rw ((S.loc i).puts_local x s.var u same q) (fit (o.puts x u q) refl e)
        go false e = rw ((S.loc i).puts_out x s.var q e)

    done : Rest (step bd n S.reader S.op) s → (i : ℕ) → i < S.size → s.queue ((S.op i).sel s.var) ≡ []
    unfolding step
    done rest i hi = go (s.queue p) refl
      where
        p : ℕ
        p = (S.op i).sel s.var

        hr : S.reader p ≡ some i
        hr = S.sel_in i hi s.var

        go : (l : List Item) → s.queue p ≡ l → l ≡ []
        go [] e = refl
        go (x ∷ l) e =
            let hh : head? (s.queue p) ≡ some x = rw e in
            let c : Can bd n (S.op i) p x s = record {
              at = eq-eqb p p refl;
              head = hh;
              free = room_all bd n ((S.op i).puts x s.var) s.queue (roomy p i x hr refl hh);
            } in
            let f = can_fire bd n (S.op i) p x s c in
            let r : step_at bd n S.reader S.op (some i) p s ≡ none = rw hr at (rest p) in
            let z : ◌≡◌ {A = ℕ} 0 1 = cc in absurd (omega arith)

    -- any order of firings, carried on until nothing can fire, comes to the solution
    pub solved : Rest (step bd n S.reader S.op) s → Sol (hist s v) s.var
    solved rest = record {
      fixed = λ q l e. v.fixed q e;
      each = λ i hi. record {
        tr = v.tr i;
        takes = λ p hr. (s.queue p, ap (λ (l : List Item). l ++ s.queue p) (sym (v.takes p i hr)));
        ends = ends i hi;
        puts = λ q e. v.puts q i (S.outs_def i q e);
        vars = λ k e. v.vars k i e;
      };
    }
      where
        ends : (i : ℕ) → i < S.size → Ends (S.op i) v₀ (hist s v) (v.tr i)
        ends i hi =
            let e : (S.op i).sel (tv (S.op i) v₀ (v.tr i)) ≡ (S.op i).sel s.var = sym
            ((S.loc i).sel_local s.var (tv (S.op i) v₀ (v.tr i)) (λ k h. v.vars k i h)) in
            let p = (S.op i).sel s.var in
            rw e (rw (done rest i hi, append-nil (v.had p)) (sym (v.takes p i (S.sel_in i hi s.var))))

    -- how often anything fired
    pub fired_le : m ≤ sum S.width (λ p. weight (S.reader p) (W p))
    fired_le = rw v.count (sum_le S.width (λ p. length (v.had p)) (λ p. weight (S.reader p) (W p)) (λ p. each p (S.reader p) refl))
      where
        each : (p : ℕ) (o : Option ℕ) → S.reader p ≡ o → length (v.had p) ≤ weight o (W p)
        each p none e = rw (v.unread p e) (omega arith)
        each p (some i) e = omega (arith, had_le p, hist_le p)

  -- the fed, fresh state
  pub fresh : ((q i : ℕ) → S.definer q ≡ some i → feed q ≡ []) → Inv 0 (record { queue = feed; var = v₀ })
  unfolding tput ttake tv
  fresh h = record {
    had = λ q. [];
    count = sum_zero S.width;
    tr = λ i. [];
    fixed = λ q e. refl;
    takes = λ p i e. refl;
    unread = λ p e. refl;
    puts = λ q i e. h q i e;
    vars = λ k i e. refl;
    idle = λ k h. refl;
  }

-- any order of firings from the fed, fresh state, carried on until nothing can fire
module _ {Item Val : Type 0} (S : Sheet Item Val) (feed : ℕ → List Item) (v₀ : Vars Item Val)
    (empty : (q i : ℕ) → S.definer q ≡ some i → feed q ≡ []) where
  pub rested : (bd n : ℕ) (W : ℕ → ℕ) → Worst S feed v₀ bd W → {m : ℕ} (t : State Item Val)
      → Run (step bd n S.reader S.op) m (record { queue = feed; var = v₀ }) t
      → Rest (step bd n S.reader S.op) t
      → (H : ℕ → List Item) × Sol S feed v₀ H t.var × ((q : ℕ) → S.reader q ≡ none → t.queue q ≡ H q) ×
      (m ≤ sum S.width (λ p. weight (S.reader p) (W p))) × ((k : ℕ) → ((i : ℕ) → (S.op i).own k ≡ false) → t.var k ≡ v₀ k)
  rested bd n W w {m} t run rest =
      let v : Inv S feed v₀ m t = subst (λ (j : ℕ). Inv S feed v₀ j t) (omega arith)
      (inv_run S feed v₀ bd n run 0 (fresh S feed v₀ empty)) in (
        hist S feed v₀ t v,
        solved S feed v₀ bd n W w t v rest,
        (λ q e. ap (λ (l : List Item). l ++ t.queue q) (sym (v.unread q e))),
        fired_le S feed v₀ bd n W w t v,
        v.idle,
      )
