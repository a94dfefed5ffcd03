-- Which bytes lay out which message on one order: the tables of layouts, lengths and fields by their offsets.
use Rattle.std.specs.Prelude.{◌≡◌, ℕ, ◌+◌, List, length, None, Ok, MatchBool}
use Rattle.book.specs.declared.order.Order.{Order}
use Rattle.readers.specs.Values.{PairIs, LabelIs, PriceIs, AmountIs, SideIs, OptionalIs}
use Rattle.venue.specs.Form as venue
use Rattle.message.specs.declared.messages.Modify.{Modify}
use Rattle.message.specs.declared.messages.Cancel.{Cancel}
use Rattle.message.specs.Reading.{field}

-- the venue's tail of these terms
abbrev pub TailIs : {T : Type 0} → venue.Form T → List ℕ → T → Type 0
TailIs F bs t = F.reads bs ≡ Ok t

module _ {T : Type 0} (F : venue.Form T) (m : List ℕ) where
  pub record NewRow (o : Order T) : Type 0 where
    pub long : length m ≡ 50 + F.width
    pub side : SideIs (field 1 1 m) o.side
    pub pair : PairIs (field 2 7 m) o.pair
    pub id : LabelIs 15 (field 9 15 m) o.id
    pub price : PriceIs (field 24 10 m) o.price
    pub amount : AmountIs (field 34 16 m) o.amount
    pub terms : TailIs F (field 50 F.width m) o.terms

  -- Modify without price
  pub record AmendRow (x : Modify T) : Type 0 where
    pub long : length m ≡ 39 + F.width
    pub pair : PairIs (field 1 7 m) x.pair
    pub active : LabelIs 15 (field 8 15 m) x.active
    pub price : x.price ≡ None
    pub amount : AmountIs (field 23 16 m) x.amount
    pub replaced : x.replaced ≡ None
    pub terms : TailIs F (field 39 F.width m) x.terms

  -- where the tail and the replaced id stand behind a priced Modify's amount
  abbrev pub EndRow : Modify T → Type 0
  EndRow x = MatchBool F.modify_tail_first
      (TailIs F (field 49 F.width m) x.terms × OptionalIs 15 (LabelIs 15) (field (49 + F.width) 15 m) x.replaced)
      (OptionalIs 15 (LabelIs 15) (field 49 15 m) x.replaced × TailIs F (field 64 F.width m) x.terms)

  -- Modify with price; a replaced id is filled only if there is a price
  pub record RepriceRow (x : Modify T) : Type 0 where
    pub long : length m ≡ 64 + F.width
    pub pair : PairIs (field 1 7 m) x.pair
    pub active : LabelIs 15 (field 8 15 m) x.active
    pub price : OptionalIs 10 PriceIs (field 23 10 m) x.price
    pub amount : AmountIs (field 33 16 m) x.amount
    pub end : EndRow x
    pub filled : x.price ≡ None → x.replaced ≡ None

  abbrev pub ModifyRow : Modify T → Type 0
  ModifyRow x = MatchBool F.priced (RepriceRow x) (AmendRow x)

pub record CancelRow (m : List ℕ) (x : Cancel) : Type 0 where
  pub long : length m ≡ 23
  pub pair : PairIs (field 1 7 m) x.pair
  pub id : LabelIs 15 (field 8 15 m) x.id
