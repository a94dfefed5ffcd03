-- The verdict that is worked out is the one that the relations allow.
use Rattle.std.proofs.Common.{◌≡◌, ℕ, ◌+◌, ◌*◌, ◌≤◌, eqb, ltb, List, get_or, None, Ok, Err, sym, refl, inl, inr, arith}
use Rattle.std.proofs.lemmas.Bool.{cond_both, eqb-true, eqb-false, ltb-true, ltb-false}
use Rattle.fields.specs.Bytes.{Printable}
use Rattle.fields.specs.Fields.{IntegerField, TimeField, integer_text}
use Rattle.fields.specs.Forms.{Paired, paired}
use Rattle.fields.specs.Ranges.{between}
use Rattle.fields.specs.declared.integers.Integer.{Integer}
use Rattle.fields.specs.Values.{TimeOfDay}
use Rattle.fields.proofs.Codecs.{integer_codec, time_codec}
use Rattle.fields.specs.Tests.{decides_between, paired_decides}
use Rattle.readers.specs.Values.{time_of, integer_of}
use Rattle.readers.specs.Lawful.{time_law, integer_law}
use Rattle.packet.specs.Letters.{Letter, accepted, rejected, sequenced, heartbeat, explained, directory, code}
use Rattle.packet.specs.Layouts.{size, field}
use Rattle.packet.specs.Faults.{Misfits, NotInForm}
use Rattle.packet.specs.Verdict.{Matches, Reads}
use Rattle.packet.specs.declared.packets.Packet.{Packet}
use Rattle.packet.specs.declared.packets.Packet.TheVariants.{Directory}
use Rattle.packet.specs.declared.packets.FormFault.TheVariants.{Unprintable, NoLetter, BadField}
use Rattle.packet.proofs.Forms.{exact_from_reads, reads_from_matches}
use Rattle.forms.specs.Form.{Form, ◌▷◌, sized, letter_for, head_of, directory_of, row_of, layout_of, form_of}
use Rattle.forms.specs.Laws.{HeadTold, VerdictLaws}
use Rattle.forms.proofs.Parts.{either_way, unless_first, unless_below, letter_some, letter_none, unread}
use Rattle.forms.proofs.Apart.{one_head, one_match, one_reading}

-- Heads.
pub head_so : (bs : List ℕ) → HeadTold bs (head_of bs)
unfolding head_of
head_so bs =
    cond_both (ltb 49152 (size bs)) _ _ (HeadTold bs)
    (λ t. (ltb-true 49152 (size bs) t, omega arith))
    (λ f. let fits = ltb-false 49152 (size bs) f in
    unless_first (between 32 126) Printable (decides_between 32 126) bs 0 Unprintable _ (HeadTold bs)
    (λ all. either_way (letter_for (get_or bs 0 0)) NoLetter _ (HeadTold bs)
    (λ none. ((fits, all, letter_none (get_or bs 0 0) none), omega arith))
    (λ l some. let e = letter_some (get_or bs 0 0) l some in (fits, all, sym e, (l, refl))))
    (λ k l bad before. ((fits, l, bad, before), omega arith)))

pub head_is : (bs : List ℕ) (r : Form ℕ) → HeadTold bs r → r ≡ head_of bs
head_is bs r h = one_head bs r (head_of bs) h (head_so bs)

-- Layouts.
integer_unread : (w : ℕ) (bs : List ℕ) → integer_of w bs ≡ None → NotInForm (IntegerField w bs)
integer_unread w = unread w (IntegerField w) (λ (v : Integer w). v.value) (λ v. integer_text w v.value) (integer_of w) (integer_codec w) (integer_law w)

time_unread : (bs : List ℕ) → time_of bs ≡ None → NotInForm (TimeField bs)
time_unread = unread 9 TimeField (λ (v : TimeOfDay). v.bytes) (λ v. v.bytes) time_of time_codec time_law

module _ (c : ℕ) (bs : List ℕ) where
  -- a row of n bytes, or 15
  sized_so : (l : Letter) (n : ℕ) (r : Form Packet) → c ≡ code l → (size bs ≡ n → Matches c bs r) → ((size bs ≡ n → ⊥) → Misfits l bs) → Matches c bs (sized n bs r)
  sized_so l n r e fits misfits =
      cond_both (eqb (size bs) n) _ _ (Matches c bs) (λ t. fits (eqb-true (size bs) n t)) (λ f. (l, e, misfits (eqb-false (size bs) n f)))

  -- a directory whose n is in form
  directory_so : (n : Integer 4) → c ≡ 82 → 6 ≤ size bs → IntegerField 4 (field 1 4 bs) n.value → Matches c bs (directory_of bs n)
  directory_so n e long says =
      sized_so directory (6 + 7 * n.value) _ e
      (λ fits.
      unless_below (λ k. paired (field (5 + 7 * k) 7 bs)) (λ k. Paired (field (5 + 7 * k) 7 bs)) (λ k. paired_decides (field (5 + 7 * k) 7 bs))
      n.value (λ k. BadField (5 + 7 * k)) (Ok (Directory n)) (Matches c bs)
      (λ all. (e, (fits, says, all)))
      (λ k l bad before. (directory, e, inr (n.value, k, refl, says, fits, l, bad, before))))
      (λ no. inr (n.value, long, says, no))

  row_so : (l : Letter) → c ≡ code l → Matches c bs (row_of l bs)
  row_so accepted e =
      sized_so accepted 12 _ e
      (λ long.
      either_way (integer_of 10 (field 1 10 bs)) (BadField 1) _ (Matches c bs)
      (λ none. (accepted, e, (refl, long, integer_unread 10 (field 1 10 bs) none)))
      (λ v some. (e, (long, (integer_law 10).sound (field 1 10 bs) v some))))
      (λ no. no)
  row_so rejected e = sized_so rejected 22 _ e (λ long. (e, long)) (λ no. no)
  row_so sequenced e =
      cond_both (eqb (size bs) 2) _ _ (Matches c bs) (λ t. (e, eqb-true (size bs) 2 t))
      (λ f. cond_both (ltb (size bs) 12) _ _ (Matches c bs)
      (λ t. (sequenced, e, (eqb-false (size bs) 2 f, ltb-true (size bs) 12 t)))
      (λ g. let long = ltb-false (size bs) 12 g in
      either_way (time_of (field 1 9 bs)) (BadField 1) _ (Matches c bs)
      (λ none. (sequenced, e, (refl, long, time_unread (field 1 9 bs) none)))
      (λ v some. (e, (long, time_law.sound (field 1 9 bs) v some)))))
  row_so heartbeat e = sized_so heartbeat 2 _ e (λ long. (e, long)) (λ no. no)
  row_so explained e = sized_so explained 102 _ e (λ long. (e, long)) (λ no. no)
  row_so directory e =
      cond_both (ltb (size bs) 6) _ _ (Matches c bs)
      (λ t. (directory, e, inl (ltb-true (size bs) 6 t)))
      (λ f. let long = ltb-false (size bs) 6 f in
      either_way (integer_of 4 (field 1 4 bs)) (BadField 1) _ (Matches c bs)
      (λ none. (directory, e, inl (refl, long, integer_unread 4 (field 1 4 bs) none)))
      (λ n some. directory_so n e long ((integer_law 4).sound (field 1 4 bs) n some)))

  pub layout_so : Matches c bs (layout_of c bs)
  unfolding layout_of
  layout_so = either_way (letter_for c) NoLetter _ (Matches c bs) (letter_none c) (λ l some. row_so l (letter_some c l some))

  pub layout_is : (r : Form Packet) → Matches c bs r → r ≡ layout_of c bs
  layout_is r m = one_match c bs r (layout_of c bs) m layout_so

-- The whole.
both_so : (bs : List ℕ) (r : Form ℕ) → HeadTold bs r → Reads bs (r ▷ λ c. layout_of c bs)
both_so bs (Ok c) h = reads_from_matches bs c (layout_of c bs) h (layout_so c bs)
both_so bs (Err f) h = h.0

pub form_so : (bs : List ℕ) → Reads bs (form_of bs)
unfolding form_of
form_so bs = both_so bs (head_of bs) (head_so bs)

pub form_is : (bs : List ℕ) (r : Form Packet) → Reads bs r → r ≡ form_of bs
form_is bs r h = one_reading bs r (form_of bs) h (form_so bs)

pub verdict_laws : VerdictLaws
verdict_laws = record {
  head_is = head_is;
  head_so = head_so;
  layout_is = layout_is;
  layout_so = layout_so;
  form_is = form_is;
  form_so = form_so;
  laid_out = λ bs. exact_from_reads bs (form_of bs) (form_so bs);
}
