-- Laws: of calls, of counts and of columns (`DayLaws`), of a position's line (`PositionLaws`), of the table of contents
-- (`ContentsLaws`), of the bodies (`BodyLaws`) and their first words (`HeadLaws`). Who is lost stays lost (`LostLaws`).
pub mod DayLaws
pub mod PositionLaws
pub mod ContentsLaws
pub mod BodyLaws
pub mod HeadLaws
pub mod LostLaws
