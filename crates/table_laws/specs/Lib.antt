pub mod AnswerLaws
pub mod SurveyLaws
