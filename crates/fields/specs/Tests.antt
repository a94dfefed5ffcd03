-- The tests by which values keep their forms decide these forms.
use Rattle.std.proofs.Common.{ℕ, ◌+◌, ◌<◌, ◌≤◌, leb, List, length, get_or, Decides, refl}
use Rattle.std.proofs.lemmas.Bool.Decides.{Decides-eqb, Decides-ltb, Decides-not, Decides-and, Decides-like, Decides-below_and}
use Rattle.std.proofs.lemmas.Bool.{leb-true, le-leb}
use Rattle.fields.specs.Ranges.{between}
use Rattle.fields.specs.Forms.{Labelled, Paired, Timed, below, labelled, paired, timed, two}
use Rattle.fields.specs.Bounds.{between_bounds, between_in}

pub decides_leb : (m n : ℕ) → Decides (leb m n) (m ≤ n)
decides_leb m n = (leb-true m n, le-leb m n)

pub decides_between : (least most n : ℕ) → Decides (between least most n) ((least ≤ n) × (n ≤ most))
decides_between least most n = (between_bounds least most n, λ h. between_in least most n h.0 h.1)

-- the bytes below n at each place i lie between two bounds
pub each_between : (least most n : ℕ) (at : ℕ → ℕ) → Decides (below (λ i. between least most (at i)) n) ((i : ℕ) → i < n → (least ≤ at i) × (at i ≤ most))
each_between least most n at =
    Decides-below_and (λ i. between least most (at i)) (λ i. (least ≤ at i) × (at i ≤ most)) (below (λ i. between least most (at i)))
    (λ i. decides_between least most (at i)) refl (λ _. refl) n

pub labelled_decides : (n : ℕ) (bs : List ℕ) → Decides (labelled n bs) (Labelled n bs)
unfolding labelled
labelled_decides n bs =
    Decides-like _ (λ h. (h.0, h.1.0, h.1.1.0, h.1.1.1)) (λ h. (h.0, (h.1, (h.2, h.3))))
    (Decides-and _ _ (Decides-eqb (length bs) n) (Decides-and _ _ (Decides-ltb 0 n) (Decides-and _ _ (Decides-not _ (Decides-eqb (get_or bs 0 0) 32)) (each_between 32 126 (length bs) (λ i. get_or bs i 0)))))

pub paired_decides : (bs : List ℕ) → Decides (paired bs) (Paired bs)
unfolding paired
paired_decides bs =
    Decides-like _ (λ h. (h.0, h.1.0, h.1.1.0, h.1.1.1)) (λ h. (h.0, (h.1, (h.2, h.3))))
    (Decides-and _ _ (Decides-eqb (length bs) 7) (Decides-and _ _ (each_between 65 90 3 (λ i. get_or bs i 0)) (Decides-and _ _ (Decides-eqb (get_or bs 3 0) 47) (each_between 65 90 3 (λ i. get_or bs (4 + i) 0)))))

pub timed_decides : (bs : List ℕ) → Decides (timed bs) (Timed bs)
unfolding timed
timed_decides bs =
    Decides-like _ (λ h. (h.0, h.1.0, h.1.1.0, h.1.1.1.0, h.1.1.1.1)) (λ h. (h.0, (h.1, (h.2, (h.3, h.4)))))
    (Decides-and _ _ (Decides-eqb (length bs) 9) (Decides-and _ _ (each_between 48 57 (length bs) (λ i. get_or bs i 0)) (Decides-and _ _ (decides_leb (two bs 0) 23) (Decides-and _ _ (decides_leb (two bs 2) 59) (decides_leb (two bs 4) 59)))))
