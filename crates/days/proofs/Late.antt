-- A day that starts from another's snapshot goes on as that one does.
use Rattle.std.proofs.Common.{◌≡◌, ℕ, ◌+◌, ◌≤◌, true, leb, List, [], ◌∷◌, ◌++◌, length, drop, Ok, sym, refl, ap, ◌∙◌, ap₂, inl, inr, append-nil, arith, length-append}
use Rattle.std.proofs.lemmas.Bool.{cond-true, le-leb}
use Rattle.book.specs.declared.order.Order.{Order}
use Rattle.book.specs.Ladder.{Ladder, placed_all}
use Rattle.book.specs.Ladders.{placed_all_own}
use Rattle.venue.specs.Form as venue
use Rattle.message.specs.Reading.{◌▷◌}
use Rattle.snapshot.specs.declared.mark.Mark.{Mark}
use Rattle.snapshot.specs.Listing.{pairs_listed, orders_put, room_needed}
use Rattle.apply.specs.Said.{Said}
use Rattle.apply.specs.Meaning as message
use Rattle.apply.proofs.Keeping.{cleared_none}
use Rattle.days.specs.declared.state.State.TheVariants.{Waiting, Open}
use Rattle.days.specs.declared.events.Report.{Report}
use Rattle.days.specs.Model.{Rules, Lawful, SaysLadder, Point, Worked, work, worked, by_letter, by_packet, by_message, event_of, after, reports, next, packets, left, start, point_of, reports_of}
use Rattle.days.specs.Day.{Wrote, wrote, whole as wrote-whole}
use Rattle.days.specs.Theorem.{Alike, LateStarter}
use Rattle.days.proofs.Chunks.{follows, packets_++, left_++, packets_none, left_none, packets_one, left_one, after_++, reports_++}
use Rattle.days.proofs.Packets.{Did, nothing, accepts, did}
use Rattle.days.proofs.Fitting.{keeps_a_ladder}

module _ {T : Type 0} (v : Rules T) (capacity : ℕ) where
  -- the same packets from two points that differ in place alone
  alike : (ps : List (List ℕ)) (a b : ℕ) (x y : Point T) → x.state ≡ y.state → x.ladder ≡ y.ladder → x.place + a ≡ y.place + b
      → Alike a b (reports v capacity x ps) (reports v capacity y ps) × ((after v capacity x ps).ladder ≡ (after v capacity y ps).ladder)
  alike [] a b x y hs hl hp = (tt, hl)
  alike (p ∷ ps) a b x y hs hl hp =
      let same : work v capacity x p ≡ work v capacity y p = ap₂ (λ s l. worked v capacity s l p) hs hl in
      let ih = alike ps a b (next v capacity x p) (next v capacity y p) (ap (λ w. w.state) same) (ap (λ w. w.ladder) same) (omega arith) in
      ((ap (λ w. w.outcome) same, hp, ih.0), ih.1)

  drop_reports : (ps : List (List ℕ)) (x : Point T) (rs : List Report) → drop (length (reports v capacity x ps)) (reports v capacity x ps ++ rs) ≡ rs
  drop_reports [] x rs = refl
  drop_reports (p ∷ ps) x rs = drop_reports ps (next v capacity x p) rs

-- a snapshot that says a ladder gives it, from an empty ladder
module _ {T : Type 0} (F : venue.Form T) (capacity : ℕ) (l : List (Order T)) (ok : Ladder l) (few : length l ≤ capacity) where
  listed_again : (ms : List (Mark T)) → orders_put ms ≡ l → message.snapshot_after capacity [] ms ≡ Ok l
  unfolding message.snapshot_after
  listed_again ms e =
      let none = cleared_none {T = T} (pairs_listed ms) in
      let room : leb (room_needed ms []) capacity ≡ true = le-leb (room_needed ms []) capacity (omega (arith, ap length none, ap length e, few)) in
      cond-true (leb (room_needed ms []) capacity) _ _ room ∙ ap Ok (ap₂ placed_all none e ∙ placed_all_own l ok.sorted)

  said_again : (m : Said T) → SaysLadder l m → message.after F capacity [] m ≡ Ok l
  said_again m (inl e) = ap (message.after F capacity []) e.0 ∙ ap Ok (sym e.1)
  said_again m (inr (ms, e, o)) = ap (message.after F capacity []) e ∙ listed_again ms o

module _ {T : Type 0} (v : Rules T) (law : Lawful v) (capacity : ℕ) where
  -- a packet that opens a session leaves its ladder
  opens : (bs : List ℕ) → (work v capacity start bs).state ≡ Open → (work v capacity start bs).ladder ≡ []
  opens bs h = go (work v capacity start bs) (did v capacity Waiting [] bs law) h
    where
      go : (w : Worked T) → Did v capacity Waiting [] bs w → w.state ≡ Open → w.ladder ≡ []
      go w (nothing e a) o = e
      go w (accepts m k e s a) o = absurd cc

  -- a snapshot written, worked on an empty ladder
  restores : capacity ≤ 512 → (time : List ℕ) → v.is_time time ≡ true → (l : List (Order T)) → Ladder l → length l ≤ capacity
      → ((worked v capacity Open [] (v.writes time l)).state ≡ Open) × ((worked v capacity Open [] (v.writes time l)).ladder ≡ l)
  restores small time good l ok few =
      let bs : List ℕ = v.writes time l in
      let so = law.written time l good ok (omega arith) in
      let gave : worked v capacity Open [] bs ≡ record { outcome = Ok (event_of so.said); state = Open; ladder = l } =
      ap (by_letter v capacity Open [] bs) so.head
      ∙ ap (by_packet v capacity Open [] bs) so.layout
      ∙ ap (λ r. by_message v capacity Open [] (r ▷ λ m. message.with_ladder v.form capacity [] m (message.after v.form capacity [] m))) so.message
      ∙ ap (λ a. by_message v capacity Open [] (message.with_ladder v.form capacity [] so.said a)) (said_again v.form capacity l ok few so.said so.says) in
      (ap (λ w. w.state) gave, ap (λ w. w.ladder) gave)

written : {T : Type 0} (v : Rules T) (capacity : ℕ) (l : List (Order T)) (time : List ℕ) (room : ℕ) (w : List ℕ) → Wrote v capacity l time room (wrote w)
    → (v.is_time time ≡ true) × (w ≡ v.writes time l ++ (10 ∷ []))
written v capacity l time room w (wrote-whole t h) = (t, refl)

pub late_starter : {T : Type 0} (v : Rules T) → Lawful v → LateStarter v
late_starter {T} v law capacity small whole part rs s l d ends nl is_open time room snapshot is-written login nlf opened rest rs₁ rs₂ s₁ s₂ l₁ l₂ d₁ d₂ =
    let f = follows v capacity law d in
    let f₁ = follows v capacity law d₁ in
    let f₂ = follows v capacity law d₂ in
    let a : Point T = after v capacity start (packets [] whole) in
    let body : List ℕ = v.writes time l in
    let wr = written v capacity l time room snapshot is-written in
    let w_is : snapshot ≡ body ++ (10 ∷ []) = wr.1 in
    let cut : packets [] (whole ++ part) ≡ packets [] whole =
    packets_++ [] whole part ∙ ap (λ t. packets [] whole ++ t) (packets_none (left [] whole) part nl) ∙ append-nil (packets [] whole) in
    let at_open : a.state ≡ Open = ap (λ ps. (after v capacity start ps).state) (sym cut) ∙ sym f.state_is ∙ is_open in
    let at-ladder : a.ladder ≡ l = ap (λ ps. (after v capacity start ps).ladder) (sym cut) ∙ sym f.ladder_is in
    let ok = keeps_a_ladder v law capacity (whole ++ part) rs s l d in
    let few : length l ≤ 512 = omega (arith, ok.1) in
    let tail : left [] (whole ++ part) ≡ part = left_++ [] whole part ∙ ap (λ t. left t part) ends ∙ left_none [] part nl in
    let at_place : a.place ≡ length whole =
    let e : a.place + length part ≡ length whole + length part =
    ap (λ ps. (after v capacity start ps).place + length part) (sym cut)
    ∙ ap (λ t. (point_of v capacity (whole ++ part)).place + length t) (sym tail) ∙ f.sum_is ∙ length-append whole part in
    omega arith in
    let p₁ : Point T = next v capacity start login in
    let lone : packets [] (login ++ (10 ∷ [])) ≡ login ∷ [] = packets_one [] login nlf in
    let p₁-open : p₁.state ≡ Open = ap (λ ps. (after v capacity start ps).state) (sym lone) ∙ opened in
    let p₁-empty : p₁.ladder ≡ [] = opens v law capacity login p₁-open in
    let to : work v capacity p₁ body ≡ worked v capacity Open [] body = ap₂ (λ x y. worked v capacity x y body) p₁-open p₁-empty in
    let back = restores v law capacity small time wr.0 l ok.0 ok.1 in
    let b : Point T = next v capacity p₁ body in
    let on : List (List ℕ) = packets [] rest in
    let cut₁ : packets [] (whole ++ rest) ≡ packets [] whole ++ on = packets_++ [] whole rest ∙ ap (λ t. packets [] whole ++ packets t rest) ends in
    let cut₂ : packets [] ((login ++ (10 ∷ [])) ++ (snapshot ++ rest)) ≡ login ∷ (body ∷ on) =
    packets_++ [] (login ++ (10 ∷ [])) (snapshot ++ rest)
    ∙ ap₂ (λ x y. x ++ packets y (snapshot ++ rest)) lone (left_one [] login)
    ∙ ap (λ t. login ∷ t)
    (packets_++ [] snapshot rest ∙ ap (λ x. packets [] x ++ packets (left [] x) rest) w_is
    ∙ ap₂ (λ x y. x ++ packets y rest) (packets_one [] body (law.written time l wr.0 ok.0 few).no_lf) (left_one [] body)) in
    let r₁ : drop (length (reports_of v capacity whole)) rs₁ ≡ reports v capacity a on =
    ap (drop (length (reports_of v capacity whole))) (f₁.reports_are ∙ ap (reports v capacity start) cut₁ ∙ reports_++ v capacity start (packets [] whole) on)
    ∙ drop_reports v capacity (packets [] whole) start (reports v capacity a on) in
    let r₂ : drop 2 rs₂ ≡ reports v capacity b on = ap (drop 2) (f₂.reports_are ∙ ap (reports v capacity start) cut₂) in
    let k₁ : l₁ ≡ (after v capacity a on).ladder =
    f₁.ladder_is ∙ ap (λ ps. (after v capacity start ps).ladder) cut₁ ∙ ap (λ x. x.ladder) (after_++ v capacity start (packets [] whole) on) in
    let k₂ : l₂ ≡ (after v capacity b on).ladder = f₂.ladder_is ∙ ap (λ ps. (after v capacity start ps).ladder) cut₂ in
    let n₁ : length (login ++ (10 ∷ [])) ≡ length login + 1 = length-append login (10 ∷ []) in
    let n₂ : length snapshot ≡ length body + 1 = ap length w_is ∙ length-append body (10 ∷ []) in
    let shift : a.place + (length (login ++ (10 ∷ [])) + length snapshot) ≡ b.place + length whole = omega (arith, at_place, n₁, n₂) in
    let both = alike v capacity on (length (login ++ (10 ∷ [])) + length snapshot) (length whole) a b
    (at_open ∙ sym (ap (λ w. w.state) to ∙ back.0)) (at-ladder ∙ sym (ap (λ w. w.ladder) to ∙ back.1)) shift in
    (rw (r₁, r₂) both.0, k₁ ∙ both.1 ∙ sym k₂)
